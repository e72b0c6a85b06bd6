-- The row and the column of a cell's index.
use Rattle.std.proofs.Common.{ltb, leb, ◌&&◌, true, false, ◌==◌, eq-eqb, length, subst, Some, None, ◌≡◌, ℕ, ◌+◌, ◌*◌, ◌/◌, ◌%◌, ◌<◌, ◌≤◌, zero, suc, ap, ◌∙◌, arith}
use Rattle.std.proofs.lemmas.Bool.{cond-true, cond-false, and_parts, ltb-true, leb-true}
use Rattle.std.proofs.lemmas.Bool.Decides.{nat_tests}
use Rattle.std.proofs.lemmas.Nat.{div-mul-add, mod-mul-add}
use Rattle.textarea_terminal.specs.PaintSpot.{IsSpot}
use Rattle.textarea_screen.specs.Cell.{CellView}
use Rattle.textarea_terminal.specs.Control.Control.{MoveTo}
use Rattle.textarea_terminal.specs.PaintCells.{cluster_columns, can_begin}
use Rattle.textarea_terminal.specs.Screen.{Terminal, apply_control, cursor_after, has_plain_modes}
use Rattle.textarea_terminal.proofs.ScreenMoves.{move-there}
use Rattle.textarea_terminal.specs.declared.output.spot.Spot.{Spot}

pub column-of : (columns : ℕ) (spot : Spot) → 0 < columns → IsSpot columns spot → spot.index % columns ≡ spot.column
column-of columns spot some is = ap (λ index. index % columns) is.index ∙ mod-mul-add spot.row columns spot.column (is.column some)

pub row-of : (columns : ℕ) (spot : Spot) → 0 < columns → IsSpot columns spot → spot.index / columns ≡ spot.row
row-of columns spot some is = ap (λ index. index / columns) is.index ∙ div-mul-add spot.row columns spot.column (is.column some)

pub some-columns : (index height width : ℕ) → index < height * width → 0 < width
some-columns index height zero within = absurd (omega (arith, within))
some-columns index height (suc less) within = omega arith

pub move-to-spot : (terminal : Terminal) (columns : ℕ) (spot : Spot) → 0 < columns → IsSpot columns spot → terminal.columns ≡ columns → has_plain_modes terminal.modes ≡ true → spot.index < length terminal.cells →
    apply_control (MoveTo spot.row spot.column) terminal ≡ record terminal { cursor = Some spot.index }
move-to-spot terminal columns spot some is same modes within =
    let M : ℕ → Type 0 = λ row. apply_control (MoveTo row spot.column) terminal ≡ record terminal { cursor = Some spot.index } in
    let N : ℕ → Type 0 = λ column. apply_control (MoveTo (spot.index / columns) column) terminal ≡ record terminal { cursor = Some spot.index } in
    subst M (row-of columns spot some is) (subst N (column-of columns spot some is) (move-there terminal columns spot.index some same modes within))

pub cursor-at-end : (columns : ℕ) (spot : Spot) (width : ℕ) → 0 < width → IsSpot columns spot → spot.column + width ≡ columns → cursor_after columns (spot.index + width) ≡ None
cursor-at-end columns spot width some is end =
    let at : spot.index + width ≡ (spot.row + 1) * columns + 0 = omega (arith, is.index, end) in
    let first : (spot.index + width) % columns ≡ 0 = ap (λ index. index % columns) at ∙ mod-mul-add (spot.row + 1) columns 0 (omega arith) in
    cond-true ((spot.index + width) % columns == 0) None (Some (spot.index + width)) (eq-eqb _ _ first)

pub cursor-inside : (columns : ℕ) (spot : Spot) (width : ℕ) → 0 < width → IsSpot columns spot → spot.column + width < columns → cursor_after columns (spot.index + width) ≡ Some (spot.index + width)
cursor-inside columns spot width some is inside =
    let at : spot.index + width ≡ spot.row * columns + (spot.column + width) = omega (arith, is.index) in
    let column : (spot.index + width) % columns ≡ spot.column + width = ap (λ index. index % columns) at ∙ mod-mul-add spot.row columns (spot.column + width) inside in
    let not_first : ((spot.index + width) % columns == 0) ≡ false = rw column (grind (arith, nat_tests)) in
    cond-false ((spot.index + width) % columns == 0) None (Some (spot.index + width)) not_first

-- a cluster that can begin at a spot ends in its row
pub begins-room : (columns : ℕ) (spot : Spot) (cell : CellView) → 0 < columns → IsSpot columns spot → can_begin columns spot.index cell ≡ true →
    (0 < cluster_columns cell.symbol) × (spot.column + cluster_columns cell.symbol ≤ columns)
begins-room columns spot cell some is begins =
    let width = cluster_columns cell.symbol in
    let room = (and_parts (ltb 0 width && leb (spot.index % columns + width) columns) (ltb cell.modifier.0 512) begins).0 in
    let components = and_parts (ltb 0 width) (leb (spot.index % columns + width) columns) room in
    (ltb-true 0 width components.0, omega (arith, leb-true (spot.index % columns + width) columns components.1, column-of columns spot some is))
