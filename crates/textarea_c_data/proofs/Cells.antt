-- The cells of a screen, row after row, by the list of all of them.
use Rattle.std.proofs.Common.{◌≡◌, ◌≤◌, ◌<◌, ◌∙◌, ℕ, zero, suc, ◌+◌, ◌-◌, ◌*◌, true, List, [], ◌∷◌, ◌++◌, length, map, drop, Option, ap, refl, subst, arith}
use Rattle.std.specs.List.{slice_get}
use Rattle.std.specs.Option.{option_map, unwrap_or}
use Rattle.std.proofs.Math.Nat.{add-mul}
use Rattle.std.proofs.lemmas.Bool.Decides.{nat_tests}
use Rattle.std.proofs.lemmas.List.{drop_all}
use Rattle.textarea_screen.specs.Buffer.{area_of, cell_at, place_in}
use Rattle.textarea_screen.specs.Cell.{CellView, cell_view, fresh_cell}
use Rattle.textarea_screen.specs.Rect.{contains}
use Rattle.textarea_screen.specs.declared.screen.buffer.Buffer.{Buffer}
use Rattle.textarea_screen.specs.declared.screen.cell.Cell.{Cell as ScreenCell}
use Rattle.textarea_c_data.specs.Cells.{plain_cell, plain_cells, row_for_c, plain_rows, plain_screen_cell}

-- the list has the buffer's cells, row after row
abbrev pub AreCellsOf : Buffer → List ScreenCell → Type 0
AreCellsOf screen cells =
    (x y : ℕ) → contains (area_of screen) x y ≡ true → option_map cell_view (slice_get cells (place_in (area_of screen) x y)) ≡ cell_at screen x y

-- the cell at an index, and those after it
from_index : (cells : List ScreenCell) (i n : ℕ) (cell : Option CellView) → i < length cells → n ≡ i + 1 → option_map cell_view (slice_get cells i) ≡ cell
    → map plain_screen_cell (drop i cells) ≡ plain_cell (unwrap_or cell fresh_cell) ∷ map plain_screen_cell (drop n cells)
from_index [] i n cell inside next is = absurd (omega arith)
from_index (c ∷ cells) zero n cell inside next is =
    subst (λ (o : Option CellView). plain_screen_cell c ∷ map plain_screen_cell cells ≡ plain_cell (unwrap_or o fresh_cell) ∷ map plain_screen_cell (drop n (c ∷ cells))) is
    (let one : n ≡ 1 = omega arith in rw one refl)
from_index (c ∷ cells) (suc i) zero cell inside next is = absurd (omega arith)
from_index (c ∷ cells) (suc i) (suc n) cell inside next is = from_index cells i n cell (omega arith) (omega arith) is

-- a row of the screen begins the cells from its first one on
row_is : (screen : Buffer) (cells : List ScreenCell) (y x count i n : ℕ) → AreCellsOf screen cells → (area_of screen).y ≤ y → y < (area_of screen).y + (area_of screen).height
    → (area_of screen).x ≤ x → x + count ≡ (area_of screen).x + (area_of screen).width → i ≡ place_in (area_of screen) x y → n ≡ i + count → n ≤ length cells
    → map plain_screen_cell (drop i cells) ≡ row_for_c screen y x count ++ map plain_screen_cell (drop n cells)
row_is screen cells y x zero i n are top bottom left right at after room = let same : n ≡ i = omega arith in rw same refl
row_is screen cells y x (suc count) i n are top bottom left right at after room =
    let inside : contains (area_of screen) x y ≡ true = grind (arith, nat_tests) in
    let cell : option_map cell_view (slice_get cells i) ≡ cell_at screen x y = ap (λ m. option_map cell_view (slice_get cells m)) at ∙ are x y inside in
    from_index cells i (i + 1) (cell_at screen x y) (omega arith) refl cell
    ∙ ap (λ rest. plain_cell (unwrap_or (cell_at screen x y) fresh_cell) ∷ rest)
    (row_is screen cells y (x + 1) count (i + 1) n are top bottom (omega arith) (omega arith) (omega arith) (omega arith) room)

-- all rows from one on are the cells from its first one on
rows_are : (screen : Buffer) (cells : List ScreenCell) (y count i : ℕ) → AreCellsOf screen cells → (area_of screen).y ≤ y
    → y + count ≡ (area_of screen).y + (area_of screen).height → i ≡ (y - (area_of screen).y) * (area_of screen).width
    → length cells ≡ i + count * (area_of screen).width → map plain_screen_cell (drop i cells) ≡ plain_rows screen y count
rows_are screen cells y zero i are top bottom at all = ap (map plain_screen_cell) (drop_all i cells (omega arith))
rows_are screen cells y (suc count) i are top bottom at all =
    let width = (area_of screen).width in
    let next : (y + 1 - (area_of screen).y) * width ≡ (y - (area_of screen).y) * width + width =
    (let one : y + 1 - (area_of screen).y ≡ (y - (area_of screen).y) + 1 = omega arith in rw one (omega (arith, add-mul (y - (area_of screen).y) 1 width))) in
    row_is screen cells y (area_of screen).x width i (i + width) are top (omega arith) (omega arith) refl (omega (arith, at)) refl (omega (arith, all))
    ∙ ap (λ rest. row_for_c screen y (area_of screen).x width ++ rest)
    (rows_are screen cells (y + 1) count (i + width) are (omega arith) (omega arith) (omega (arith, at, next)) (omega (arith, all)))

-- all cells of the screen
pub cells_are : (screen : Buffer) (cells : List ScreenCell) → length cells ≡ (area_of screen).height * (area_of screen).width → AreCellsOf screen cells
    → map plain_screen_cell cells ≡ plain_cells screen
cells_are screen cells all are =
    rows_are screen cells (area_of screen).y (area_of screen).height 0 are (omega arith) refl
    (let none : (area_of screen).y - (area_of screen).y ≡ 0 = omega arith in rw none (omega arith)) (omega (arith, all))
