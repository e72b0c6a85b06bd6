-- The cells of a block's borders, corners and title.
use Rattle.std.proofs.lemmas.Grind.{common_steps}
use Rattle.std.proofs.Common.{◌≡◌, ℕ, ◌+◌, ◌-◌, ◌<◌, ◌≤◌, min, Bool, true, false, cond, eqb, ◌&&◌, List, refl, ap₂, ◌∙◌, arith}
use Rattle.std.proofs.lemmas.Bool.Decides.{nat_tests}
use Rattle.textarea_screen.specs.Block.{has_border, left_side, right_side}
use Rattle.textarea_screen.specs.Buffer.{Change, Changes}
use Rattle.textarea_screen.specs.Cell.{CellView, with_symbol}
use Rattle.textarea_screen.specs.Inset.{inset_of}
use Rattle.textarea_screen.specs.Rect.{contains}
use Rattle.textarea_screen.proofs.ChangeLemmas.{Changes-none, Changes-then}
use Rattle.textarea_screen.specs.declared.screen.block.Borders.{Borders}
use Rattle.textarea_screen.specs.declared.screen.buffer.Buffer.{Buffer}
use Rattle.textarea_screen.specs.declared.screen.rect.Rect.{Rect}
use Rattle.textarea_screen.specs.declared.screen.style.Style.{Style}
use Rattle.textarea_paint.specs.Block.{in_area, drawn_where, title_cells}
use Rattle.textarea_paint.specs.Cells.{Placed, is_in_cells, row_change}
use Rattle.textarea_paint.specs.declared.paint.cells.RowCells.{RowCells}
use Rattle.textarea_paint.proofs.CellLemmas.{cond-then, cond-within, row_change-outside}

-- ---- one change of an area after another

pub Changes-in_area : {a b c : Buffer} (area : Rect) (f g h : Change) → Changes a b (in_area area f) → Changes b c (in_area area g) →
    ((x y : ℕ) (cell : CellView) → g x y (f x y cell) ≡ h x y cell) → Changes a c (in_area area h)
Changes-in_area area f g h first second same = grind (arith, common_steps, Changes-then, cond-then)

-- ---- the cells of a rectangle inside the area

-- one of `count` numbers from the first on
abbrev pub IsAmong : ℕ → ℕ → ℕ → Type 0
IsAmong first count at = (first ≤ at) × (at < first + count)

pub among_first : (first count : ℕ) → 0 < count → IsAmong first count first
among_first first count some = (omega arith, omega arith)

pub among_last : (first count : ℕ) → 0 < count → IsAmong first count (first + count - 1)
among_last first count some = (omega arith, omega arith)

-- one column, limited by the end of the screen
pub contains-column : (area segment : Rect) (at : ℕ) → segment.x ≡ at → segment.width ≡ min 1 (65535 - at) → segment.y ≡ area.y → segment.height ≡ min area.height (65535 - area.y) →
    IsAmong area.x area.width at → (x y : ℕ) → contains segment x y ≡ (contains area x y && eqb x at)
contains-column area segment at is_x is_width is_y is_height among x y = grind (arith, nat_tests, area.right, area.bottom, among.0, among.1)

-- one row
pub contains-row : (area segment : Rect) (at : ℕ) → segment.x ≡ area.x → segment.width ≡ min area.width (65535 - area.x) → segment.y ≡ at → segment.height ≡ min 1 (65535 - at) →
    IsAmong area.y area.height at → (x y : ℕ) → contains segment x y ≡ (contains area x y && eqb y at)
contains-row area segment at is_x is_width is_y is_height among x y = grind (arith, nat_tests, area.right, area.bottom, among.0, among.1)

-- one cell
pub contains-cell : (area segment : Rect) (at_x at_y : ℕ) → segment.x ≡ at_x → segment.width ≡ min 1 (65535 - at_x) → segment.y ≡ at_y → segment.height ≡ min 1 (65535 - at_y) →
    IsAmong area.x area.width at_x → IsAmong area.y area.height at_y → (x y : ℕ) → contains segment x y ≡ (contains area x y && (eqb x at_x && eqb y at_y))
contains-cell area segment at_x at_y is_x is_width is_y is_height column row x y =
    grind (arith, nat_tests, area.right, area.bottom, column.0, column.1, row.0, row.1)

-- ---- a border or a corner

bordered : (inside drawn segment test : Bool) (f g : CellView → CellView) (cell : CellView) → segment ≡ (inside && test) →
    cond (drawn && segment) (g (cond inside (f cell) cell)) (cond inside (f cell) cell) ≡ cond inside (cond (drawn && test) (g (f cell)) (f cell)) cell
bordered true drawn segment test f g cell is = rw is refl
bordered false true segment test f g cell is = rw is refl
bordered false false segment test f g cell is = refl

-- none of them is drawn yet
pub Changes-begun : (buffer : Buffer) (area : Rect) → Changes buffer buffer (in_area area (λ x y cell. cell))
Changes-begun buffer area =
    Changes-none buffer (in_area area (λ x y cell. cell)) (λ x y cell. elim (contains area x y) as (λ b. cond b cell cell ≡ cell) [ true ↦ refl | false ↦ refl ])

-- one more of them is drawn
pub Changes-border : {a b c : Buffer} {drawn : Bool} {text : List ℕ} (area segment : Rect) (done : Change) (drawn' : Bool) (test : ℕ → ℕ → Bool) (text' : List ℕ) (style : Style) →
    Changes a b (in_area area done) → Changes b c (λ x y cell. cond (drawn && contains segment x y) (with_symbol text style cell) cell) → drawn ≡ drawn' → text ≡ text' →
    ((x y : ℕ) → contains segment x y ≡ (contains area x y && test x y)) →
    Changes a c (in_area area (λ x y cell. drawn_where drawn' test text' style x y (done x y cell)))
Changes-border area segment done drawn' test text' style before change is_drawn is_text where_it_is =
    Changes-then _ before change
    (λ x y cell.
    ap₂ (λ d t. cond (d && contains segment x y) (with_symbol t style (in_area area done x y cell)) (in_area area done x y cell)) is_drawn is_text
    ∙ bordered (contains area x y) drawn' (contains segment x y) (test x y) (done x y) (with_symbol text' style) cell (where_it_is x y))

-- ---- the title

pub title_cells-are : (borders : Borders) (area : Rect) (x width : ℕ) → x ≡ area.x + inset_of (has_border borders left_side) 0 →
    width ≡ (area.width - inset_of (has_border borders left_side) 0) - inset_of (has_border borders right_side) 0 →
    (let cells : RowCells = record { x = x; y = area.y; width = width } in cells) ≡ title_cells borders area
title_cells-are borders area x width is_x is_width = rw (is_x, is_width) refl

pub title_cells-within : (borders : Borders) (area : Rect) (x y : ℕ) → 0 < area.height → contains area x y ≡ false → is_in_cells (title_cells borders area) x y ≡ false
title_cells-within borders area x y rows outside = grind (arith, nat_tests)

pub title_in_area : (borders : Borders) (area : Rect) (cells : RowCells) (row : List Placed) → cells ≡ title_cells borders area → 0 < area.height → (x y : ℕ) (cell : CellView) →
    row_change cells 0 row x y cell ≡ in_area area (row_change (title_cells borders area) 0 row) x y cell
title_in_area borders area cells row are rows x y cell = grind (arith, common_steps, cond-within, row_change-outside, title_cells-within)
