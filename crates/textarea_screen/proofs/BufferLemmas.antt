-- The indices of a rectangle's cells in the list of all of them, and the effect of a write.
use Rattle.std.proofs.lemmas.Grind.{common_steps}
use Rattle.std.proofs.Common.{◌≡◌, ◌≢◌, ℕ, zero, suc, ◌+◌, ◌-◌, ◌*◌, ◌/◌, ◌%◌, ◌<◌, ◌≤◌, min, max, Bool, true, false, cond, eqb, leb, ltb, ◌&&◌, ◌||◌}
use Rattle.std.proofs.Common.{List, [], ◌∷◌, length, get_or, set, take, slice_range, Option, None, Some, refl, sym, ap, ap₂, ◌∙◌, arith}
use Rattle.std.specs.Vec.{vec_len}
use Rattle.std.specs.List.{slice_get, All}
use Rattle.std.specs.Option.{option_map}
use Rattle.std.proofs.lemmas.Bool.{cases_Bool, cond-true, cond-false}
use Rattle.std.proofs.lemmas.Bool.Decides.{nat_tests}
use Rattle.std.proofs.lemmas.Iterator.Adapters.{option_map_id}
use Rattle.std.proofs.lemmas.List.{drop_more}
use Rattle.std.proofs.lemmas.List.Elements.{All-tail}
use Rattle.std.proofs.lemmas.Nat.{mul-add-lt, div-mul-add, mod-mul-add}
use Rattle.std.proofs.lemmas.Option.{slice_get-get_or}
use Rattle.textarea_screen.specs.Buffer.{area_of, place_in, cell_at, Change, Changes, is_between}
use Rattle.textarea_screen.specs.Cell.{CellView, cell_view, fresh_cell}
use Rattle.textarea_screen.specs.Rect.{contains, is_in_row}
use Rattle.textarea_screen.specs.declared.screen.buffer.Buffer.{Buffer}
use Rattle.textarea_screen.specs.declared.screen.cell.Cell.{Cell}
use Rattle.textarea_screen.specs.declared.screen.rect.Rect.{Rect}
use Rattle.textarea_screen.proofs.ChangeLemmas.{Changes-none, Changes-then, Changes-inside}

-- ---- indices in the list of all cells

-- the index of a cell of the rectangle is below the length of the list
pub place_in-below : (area : Rect) (x y : ℕ) → contains area x y ≡ true → place_in area x y < area.height * area.width
place_in-below area x y h = omega (arith, mul-add-lt (y - area.y) area.width (x - area.x) area.height (grind (arith, nat_tests)) (grind (arith, nat_tests)))

-- two cells with the same index are one cell
place_in-same : (area : Rect) (x y u v : ℕ) → contains area x y ≡ true → contains area u v ≡ true → place_in area u v ≡ place_in area x y → (u ≡ x) × (v ≡ y)
place_in-same area x y u v h k e =
    let b : x - area.x < area.width = grind (arith, nat_tests) in
    let b' : u - area.x < area.width = grind (arith, nat_tests) in
    let rows : v - area.y ≡ y - area.y = sym (div-mul-add (v - area.y) area.width (u - area.x) b') ∙ ap (λ n. n / area.width) e ∙ div-mul-add (y - area.y) area.width (x - area.x) b in
    let columns : u - area.x ≡ x - area.x = sym (mod-mul-add (v - area.y) area.width (u - area.x) b') ∙ ap (λ n. n % area.width) e ∙ mod-mul-add (y - area.y) area.width (x - area.x) b in
    (grind (arith, nat_tests), grind (arith, nat_tests))

-- the cells to the right of one in the rectangle are next to it in the list
pub place_in-right : (area : Rect) (first column y : ℕ) → contains area first y ≡ true → first ≤ column →
    place_in area first y + (column - first) ≡ place_in area column y
place_in-right area first column y inside right = let start : area.x ≤ first = grind (arith, nat_tests) in omega arith

pub contains-right : (area : Rect) (first column y : ℕ) → contains area first y ≡ true → first ≤ column → column < area.x + area.width → contains area column y ≡ true
contains-right area first column y inside right left = grind (arith, nat_tests)

-- a cell of the rectangle is left of its right edge
pub contains_right : (area : Rect) (x y : ℕ) → contains area x y ≡ true → x < area.x + area.width
contains_right area x y inside = grind (arith, nat_tests)

-- ---- one cell is written

slice_get-set_same : {X : Type 0} (xs : List X) (i : ℕ) (w : X) → i < length xs → slice_get (set xs i w) i ≡ Some w
slice_get-set_same [] i w h = absurd (omega arith)
slice_get-set_same (x ∷ xs) zero w h = refl
slice_get-set_same (x ∷ xs) (suc i) w h = slice_get-set_same xs i w (omega arith)

slice_get-set_other : {X : Type 0} (xs : List X) (i j : ℕ) (w : X) → j ≢ i → slice_get (set xs i w) j ≡ slice_get xs j
slice_get-set_other [] i j w h = refl
slice_get-set_other (x ∷ xs) zero zero w h = absurd (h refl)
slice_get-set_other (x ∷ xs) zero (suc j) w h = refl
slice_get-set_other (x ∷ xs) (suc i) zero w h = refl
slice_get-set_other (x ∷ xs) (suc i) (suc j) w h = slice_get-set_other xs i j w (λ e. h (ap suc e))

-- a cell is changed where a test passes, and unchanged elsewhere
changed_where : (inside here : Bool) (was is : Option CellView) (f : CellView → CellView) → (inside ≡ true → here ≡ true → is ≡ option_map f was) →
    (inside ≡ true → here ≡ false → is ≡ was) → cond inside is None ≡ option_map (λ c. cond here (f c) c) (cond inside was None)
changed_where true true was is f changed retained = changed refl refl
changed_where true false was is f changed retained = retained refl refl ∙ sym (option_map_id was)
changed_where false here was is f changed retained = refl

-- the cell at (u, v), in the list of all cells
abbrev cell_in : Rect → List Cell → ℕ → ℕ → Option CellView
cell_in area cells u v = cond (contains area u v) (option_map cell_view (slice_get cells (place_in area u v))) None

cell_in-set : (area : Rect) (cells : List Cell) (x y u v : ℕ) (f : CellView → CellView) (d cell : Cell) → contains area x y ≡ true → area.height * area.width ≤ length cells →
    cell_view cell ≡ f (cell_view (get_or cells (place_in area x y) d)) →
    cell_in area (set cells (place_in area x y) cell) u v ≡ option_map (λ c. cond (eqb u x && eqb v y) (f c) c) (cell_in area cells u v)
cell_in-set area cells x y u v f d cell h room is =
    grind (arith, common_steps, changed_where, nat_tests, place_in-below area x y h, slice_get-set_same, slice_get-get_or, slice_get-set_other, place_in-same)

pub Changes-set : (old new : Buffer) (x y place : ℕ) (f : CellView → CellView) (d cell : Cell) → contains old.area x y ≡ true → place ≡ place_in old.area x y →
    length old.cells.items ≡ old.area.height * old.area.width → new.area ≡ old.area → new.cells.items ≡ set old.cells.items place cell →
    cell_view cell ≡ f (cell_view (get_or old.cells.items place d)) →
    Changes old new (λ u v c. cond (eqb u x && eqb v y) (f c) c)
unfolding cell_at
Changes-set old new x y place f d cell h at full area items is = record {
  area = area;
  cells = λ u v. ap₂ (λ a cs. cell_in a cs u v) area (items ∙ ap (λ n. set old.cells.items n cell) at)
      ∙ cell_in-set old.area old.cells.items x y u v f d cell h (omega (arith, full)) (is ∙ ap (λ n. f (cell_view (get_or old.cells.items n d))) at);
}

-- a write outside of the buffer's area changes no cell
pub Changes-outside : (buffer : Buffer) (x y : ℕ) (f : CellView → CellView) → contains buffer.area x y ≡ false →
    Changes buffer buffer (λ u v c. cond (eqb u x && eqb v y) (f c) c)
unfolding cell_at
Changes-outside buffer x y f outside = record {
  area = refl;
  cells = λ u v.
      changed_where (contains buffer.area u v) (eqb u x && eqb v y) _ _ f (λ in_area here. absurd (grind (arith, nat_tests))) (λ in_area there. refl);
}

-- the cell that the list has at the index of (x, y)
pub cell_at-inside : (buffer : Buffer) (x y place : ℕ) (cell : Cell) → contains buffer.area x y ≡ true → place ≡ place_in buffer.area x y → place < length buffer.cells.items →
    cell ≡ get_or buffer.cells.items place cell → Some (cell_view cell) ≡ cell_at buffer x y
unfolding cell_at
cell_at-inside buffer x y place cell in_area at within is =
    ap (λ c. Some (cell_view c)) is
    ∙ sym (ap (option_map cell_view) (slice_get-get_or buffer.cells.items place cell within))
    ∙ ap (λ n. option_map cell_view (slice_get buffer.cells.items n)) at
    ∙ sym (cond-true (contains buffer.area x y) _ _ in_area)

-- the cell at (x, y) by the list of all cells
pub cell_at-listed : (buffer : Buffer) (cells : List Cell) (x y : ℕ) → contains buffer.area x y ≡ true → cells ≡ buffer.cells.items →
    option_map cell_view (slice_get cells (place_in buffer.area x y)) ≡ cell_at buffer x y
unfolding cell_at
cell_at-listed buffer cells x y inside is =
    ap (λ all. option_map cell_view (slice_get all (place_in buffer.area x y))) is ∙ sym (cond-true (contains buffer.area x y) _ _ inside)

-- ---- cells that follow each other are changed, each by a function of its column

-- one character of a text
pub slice_range-one : (text : List ℕ) (at : ℕ) → at < length text → slice_range text at (at + 1) ≡ get_or text at 0 ∷ []
slice_range-one text at below = let one : (at + 1) - at ≡ 1 = omega arith in ap₂ (λ (n : ℕ) (rest : List ℕ). take n rest) one (drop_more text at 0 below)

-- the cells from column `from` up to column `to` of a row, each changed by a function of its column
abbrev pub change_between : (row from to : ℕ) (f : ℕ → CellView → CellView) → Change
change_between row from to f x y cell = cond (is_between row from to x y) (f x cell) cell

pub change_between-none : (row at : ℕ) (f : ℕ → CellView → CellView) (x y : ℕ) (cell : CellView) → change_between row at at f x y cell ≡ cell
change_between-none row at f x y cell = grind (arith, nat_tests)

-- the cells up to a column, and then the cell of that column
one_more : (row from at : ℕ) (f : ℕ → CellView → CellView) (x y : ℕ) (cell : CellView) → from ≤ at →
    cond (eqb x at && eqb y row) (f at (change_between row from at f x y cell)) (change_between row from at f x y cell) ≡ change_between row from (at + 1) f x y cell
one_more row from at f x y cell begun = grind (arith, nat_tests)

-- the index of a cell to the right of one that the buffer has
pub place-right : (old buffer : Buffer) (row first at place : ℕ) → area_of buffer ≡ area_of old → contains (area_of old) first row ≡ true → first ≤ at →
    at < (area_of old).x + (area_of old).width → place ≡ place_in (area_of old) first row + (at - first) → place < vec_len buffer.cells
place-right old buffer row first at place same inside begun before is =
    let area = area_of old in
    omega (arith, is, place_in-right area first at row inside begun, place_in-below area at row (contains-right area first at row inside begun before), buffer.full, ap (λ (a : Rect). a.height * a.width) same)

-- one more cell is changed
pub Changes-next : (old buffer new : Buffer) (row first at place : ℕ) (f : ℕ → CellView → CellView) (d cell : Cell) → Changes old buffer (change_between row first at f) →
    contains (area_of old) first row ≡ true → first ≤ at → at < (area_of old).x + (area_of old).width → place ≡ place_in (area_of old) first row + (at - first) →
    new.area ≡ buffer.area → new.cells.items ≡ set buffer.cells.items place cell → cell_view cell ≡ f at (cell_view (get_or buffer.cells.items place d)) →
    Changes old new (change_between row first (at + 1) f)
Changes-next old buffer new row first at place f d cell changed inside begun before is area items written =
    let whole = area_of old in
    let right = place_in-right whole first at row inside begun in
    let here = contains-right whole first at row inside begun before in
    let same : buffer.area ≡ whole = changed.area in
    Changes-then (change_between row first (at + 1) f) changed
    (Changes-set buffer new at row place (f at) d cell (ap (λ (a : Rect). contains a at row) same ∙ here) (is ∙ right ∙ ap (λ (a : Rect). place_in a at row) (sym same))
    (omega (arith, buffer.full, buffer.cells.ok.0)) area items written)
    (λ x y c. one_more row first at f x y c begun)

-- those cells between two columns that an area has
between_clipped : (area : Rect) (row from to first last at x y : ℕ) → first ≡ max from area.x → last ≡ min to (area.x + area.width) → first ≤ at → last ≤ at → at ≤ max first last →
    contains area x y ≡ true → is_between row first at x y ≡ is_between row from to x y
between_clipped area row from to first last at x y is_first is_last begun ended exact inside = grind (arith, nat_tests)

pub Changes-clipped : (old new : Buffer) (row from to first last at : ℕ) (f : ℕ → CellView → CellView) → Changes old new (change_between row first at f) →
    first ≡ max from (area_of old).x → last ≡ min to ((area_of old).x + (area_of old).width) → first ≤ at → last ≤ at → at ≤ max first last →
    Changes old new (change_between row from to f)
Changes-clipped old new row from to first last at f changed is_first is_last begun ended exact =
    Changes-inside (change_between row from to f) changed
    (λ x y cell inside. ap (λ b. cond b (f x cell) cell) (between_clipped (area_of old) row from to first last at x y is_first is_last begun ended exact inside))

between_apart : (area : Rect) (row from to first last x y : ℕ) → first ≡ max from area.x → last ≡ min to (area.x + area.width) → (first < last → contains area first row ≡ false) →
    contains area x y ≡ true → is_between row from to x y ≡ false
between_apart area row from to first last x y is_first is_last apart inside = grind (arith, nat_tests, apart)

-- the buffer has none of the cells
pub Changes-apart : (buffer : Buffer) (row from to first last : ℕ) (f : ℕ → CellView → CellView) →
    first ≡ max from (area_of buffer).x → last ≡ min to ((area_of buffer).x + (area_of buffer).width) → (first < last → contains (area_of buffer) first row ≡ false) →
    Changes buffer buffer (change_between row from to f)
Changes-apart buffer row from to first last f is_first is_last apart =
    Changes-inside (change_between row from to f) (Changes-none buffer (λ x y cell. cell) (λ x y cell. refl))
    (λ x y cell inside. sym (cond-false _ _ _ (between_apart (area_of buffer) row from to first last x y is_first is_last apart inside)))

-- ---- fresh cells

slice_get-fresh : (cells : List Cell) (n : ℕ) → n < length cells → All (λ cell. cell_view cell ≡ fresh_cell) cells → option_map cell_view (slice_get cells n) ≡ Some fresh_cell
slice_get-fresh [] n below fresh = absurd (omega arith)
slice_get-fresh (cell ∷ cells) zero below fresh = ap Some (fresh 0 cell (omega arith))
slice_get-fresh (cell ∷ cells) (suc n) below fresh =
    slice_get-fresh cells n (omega arith) (All-tail (λ c. cell_view c ≡ fresh_cell) cell cells fresh)

pub cell_at-fresh : (buffer : Buffer) (x y : ℕ) → buffer.area.height * buffer.area.width ≤ length buffer.cells.items → All (λ cell. cell_view cell ≡ fresh_cell) buffer.cells.items →
    cell_at buffer x y ≡ cond (contains buffer.area x y) (Some fresh_cell) None
unfolding cell_at
cell_at-fresh buffer x y room fresh = grind (arith, common_steps, slice_get-fresh, place_in-below, cases_Bool (contains buffer.area x y))

-- ---- the cells of a rectangle, one after another

-- the rows of a rectangle before this row
abbrev pub is_before_row : Rect → ℕ → ℕ → ℕ → Bool
is_before_row area row x y = leb area.x x && ltb x (area.x + area.width) && leb area.y y && ltb y row

pub is_between-apart : (row from at x y : ℕ) → (eqb x at && eqb y row) ≡ true → is_between row from at x y ≡ false
is_between-apart row from at x y here = grind (arith, nat_tests)

pub is_between-next : (row from at x y : ℕ) → from ≤ at → (is_between row from at x y || (eqb x at && eqb y row)) ≡ is_between row from (at + 1) x y
is_between-next row from at x y begun = grind (arith, nat_tests)

pub in_row : (area : Rect) (row x : ℕ) → area.y ≤ row → row < area.y + area.height → area.x ≤ x → x < area.x + area.width → contains area x row ≡ true
in_row area row x top bottom left right = grind (arith, nat_tests)

pub is_before_row-first : (area : Rect) (x y : ℕ) → is_before_row area area.y x y ≡ false
is_before_row-first area x y = grind (arith, nat_tests)

pub is_before_row-apart : (area : Rect) (row x y : ℕ) → is_in_row area row x y ≡ true → is_before_row area row x y ≡ false
is_before_row-apart area row x y here = grind (arith, nat_tests)

pub is_before_row-next : (area : Rect) (row x y : ℕ) → area.y ≤ row → row < area.y + area.height →
    (is_before_row area row x y || is_in_row area row x y) ≡ is_before_row area (row + 1) x y
is_before_row-next area row x y first last = grind (arith, nat_tests)
