-- Characters of printable ASCII in the cells of a row, one in each cell.
use Rattle.std.proofs.Common.{◌≡◌, ℕ, zero, suc, ◌+◌, ◌-◌, ◌<◌, ◌≤◌, Bool, true, false, cond, List, [], ◌∷◌, length, take, drop, get_or, Option, None, Some, refl, sym, ap, ◌∙◌, ⊎_elim, arith}
use Rattle.std.specs.List.{All, find}
use Rattle.std.proofs.lemmas.Bool.{cases_lt, cond-true, cond-false}
use Rattle.std.proofs.lemmas.Bool.Decides.{nat_tests}
use Rattle.std.proofs.lemmas.List.{get_or-drop, get_or-take, length-drop, length-take}
use Rattle.std.proofs.lemmas.List.Elements.{All-get_or, All-head, All-tail}
use Rattle.std.proofs.lemmas.List.Sums.{sum_by-cons}
use Rattle.textarea_screen.specs.Buffer.{ascii_change, is_between}
use Rattle.textarea_screen.specs.Cell.{CellView, with_symbol}
use Rattle.textarea_screen.specs.declared.screen.style.Style.{Style}
use Rattle.textarea_paint.specs.Cells.{Placed, placed_at, place_from, covers, is_in_cells, symbol_in_column, covered_cell, row_change, IsPenAt}
use Rattle.textarea_paint.specs.Clusters.{Cluster, in_style, plain_clusters}
use Rattle.textarea_paint.specs.Columns.{columns_of}
use Rattle.textarea_paint.specs.Plain.{IsPrintable}
use Rattle.textarea_paint.specs.Row.{clusters_width}
use Rattle.textarea_paint.specs.declared.paint.cells.Pen.{Pen}
use Rattle.textarea_paint.specs.declared.paint.cells.RowCells.{RowCells}
use Rattle.textarea_paint.proofs.CellLemmas.{IsDrawnAt, find-before}
use Rattle.textarea_paint.proofs.ColumnLemmas.{columns_of-plain}
use Rattle.textarea_paint.proofs.PartLemmas.{covers-ended, find-ended}

-- ---- their columns

pub clusters_width-plain : (style : Style) (text : List ℕ) → All IsPrintable text → clusters_width (plain_clusters style text) ≡ length text
clusters_width-plain style [] printable = refl
clusters_width-plain style (byte ∷ text) printable =
    omega (
      arith,
      sum_by-cons (λ (c : Cluster). columns_of c.text) (in_style style (byte ∷ [])) (plain_clusters style text),
      columns_of-plain byte (All-head IsPrintable byte text printable),
      clusters_width-plain style text (All-tail IsPrintable byte text printable),
    )

covers-first : (column start : ℕ) (cluster : Cluster) → columns_of cluster.text ≡ 1 → column ≡ start → covers column (placed_at start cluster) ≡ true
covers-first column start cluster one is = grind (arith, nat_tests)

-- each character takes the column of its index
find-plain : (style : Style) (text : List ℕ) (start k column : ℕ) → All IsPrintable text → column ≡ start + k → k < length text →
    find (covers column) (place_from start (plain_clusters style text)) ≡ Some (placed_at column (in_style style (get_or text k 0 ∷ [])))
find-plain style [] start k column printable is below = absurd (omega arith)
find-plain style (byte ∷ text) start zero column printable is below =
    let here : column ≡ start = omega arith in
    cond-true _ _ _ (covers-first column start (in_style style (byte ∷ [])) (columns_of-plain byte (All-head IsPrintable byte text printable)) here)
    ∙ ap (λ n. Some (placed_at n (in_style style (byte ∷ [])))) (sym here)
find-plain style (byte ∷ text) start (suc k) column printable is below =
    let one = columns_of-plain byte (All-head IsPrintable byte text printable) in
    cond-false _ _ _ (covers-ended column start (in_style style (byte ∷ [])) (omega (arith, one)))
    ∙ find-plain style text (start + columns_of (byte ∷ [])) k column (All-tail IsPrintable byte text printable) (omega (arith, one)) (omega arith)

-- ---- their cells

module _ (cells : RowCells) (pen : Pen) (left column count hidden displayed : ℕ) (at : IsPenAt cells left column pen) (drawn : IsDrawnAt cells pen count hidden displayed) (x y : ℕ) where
  plain_inside : is_between cells.y pen.x (pen.x + displayed) x y ≡ true → is_in_cells cells x y ≡ true
  plain_inside h = grind (arith, nat_tests, at.x, drawn.inside)

  plain_shown : is_between cells.y pen.x (pen.x + displayed) x y ≡ true → x - pen.x < displayed
  plain_shown h = grind (arith, nat_tests)

  plain_index : is_between cells.y pen.x (pen.x + displayed) x y ≡ true → left + (x - cells.x) ≡ column + (hidden + (x - pen.x))
  plain_index h = grind (arith, nat_tests, at.hidden, at.x, drawn.left_of, drawn.inside)

  plain_past : is_between cells.y pen.x (pen.x + displayed) x y ≡ false → is_in_cells cells x y ≡ true → column ≤ left + (x - cells.x) → column + count ≤ left + (x - cells.x)
  plain_past h inside later = grind (arith, nat_tests, at.hidden, at.x, drawn.left_of, drawn.inside)

  plain_below : x - pen.x < displayed → hidden + (x - pen.x) < count
  plain_below h = omega (arith, drawn.left_of, drawn.inside)

-- a cluster of one column in one of the cells is whole
whole_symbol : (cells : RowCells) (left x y : ℕ) (cluster : Cluster) → columns_of cluster.text ≡ 1 → is_in_cells cells x y ≡ true →
    cluster.text ≡ symbol_in_column cells left (placed_at (left + (x - cells.x)) cluster) (left + (x - cells.x))
whole_symbol cells left x y cluster one inside = grind (arith, nat_tests)

cond-run : (cells : RowCells) (left column : ℕ) (placed : Placed) (test inside : Bool) (found : Option Placed) (cell : CellView) → (test ≡ true → inside ≡ true) →
    (test ≡ true → found ≡ Some placed) → (test ≡ true → placed.text ≡ symbol_in_column cells left placed column) → (test ≡ false → inside ≡ true → found ≡ None) →
    cond test (with_symbol placed.text placed.style cell) cell ≡ cond inside (covered_cell cells left column found cell) cell
cond-run cells left column placed true true found cell within here symbol none = rw (here refl) (ap (λ text. with_symbol text placed.style cell) (symbol refl))
cond-run cells left column placed true false found cell within here symbol none = cc (within refl)
cond-run cells left column placed false true found cell within here symbol none = rw (none refl refl) refl
cond-run cells left column placed false false found cell within here symbol none = refl

-- a part of the characters is drawn at the pen: those after the hidden ones, up to the right edge
pub row_change-plain : (cells : RowCells) (pen : Pen) (left column hidden displayed : ℕ) (style : Style) (text part : List ℕ) → IsPenAt cells left column pen →
    IsDrawnAt cells pen (length text) hidden displayed → part ≡ take displayed (drop hidden text) → All IsPrintable text → (x y : ℕ) (cell : CellView) →
    ascii_change pen.x cells.y part style x y cell ≡ row_change cells left (place_from column (plain_clusters style text)) x y cell
unfolding row_change
row_change-plain cells pen left column hidden displayed style text part at drawn is_part printable x y cell =
    let count = length text in
    let shown = left + (x - cells.x) in
    let index = hidden + (x - pen.x) in
    let len : length part ≡ displayed = ap length is_part ∙ length-take displayed (drop hidden text) ∙ (omega (arith, length-drop hidden text, drawn.left_of, drawn.inside)) in
    let test : is_between cells.y pen.x (pen.x + length part) x y ≡ is_between cells.y pen.x (pen.x + displayed) x y = ap (λ n. is_between cells.y pen.x (pen.x + n) x y) len in
    let byte = get_or part (x - pen.x) 0 in
    let same : x - pen.x < displayed → byte ≡ get_or text index 0 =
    λ below. ap (λ t. get_or t (x - pen.x) 0) is_part ∙ get_or-take displayed (drop hidden text) (x - pen.x) 0 below ∙ get_or-drop hidden text (x - pen.x) 0 in
    cond-run cells left shown (placed_at shown (in_style style (byte ∷ []))) (is_between cells.y pen.x (pen.x + length part) x y) (is_in_cells cells x y)
    (find (covers shown) (place_from column (plain_clusters style text))) cell
    (λ h. plain_inside cells pen left column count hidden displayed at drawn x y (sym test ∙ h))
    (λ h.
    let below = plain_shown cells pen left column count hidden displayed at drawn x y (sym test ∙ h) in
    find-plain style text column index shown printable (plain_index cells pen left column count hidden displayed at drawn x y (sym test ∙ h))
    (plain_below cells pen left column count hidden displayed at drawn x y below)
    ∙ ap (λ b. Some (placed_at shown (in_style style (b ∷ [])))) (sym (same below)))
    (λ h.
    let below = plain_shown cells pen left column count hidden displayed at drawn x y (sym test ∙ h) in
    let one : columns_of (byte ∷ []) ≡ 1 = ap (λ b. columns_of (b ∷ [])) (same below)
    ∙ columns_of-plain (get_or text index 0) (All-get_or IsPrintable text index 0 (plain_below cells pen left column count hidden displayed at drawn x y below) printable) in
    whole_symbol cells left x y (in_style style (byte ∷ [])) one (plain_inside cells pen left column count hidden displayed at drawn x y (sym test ∙ h)))
    (λ h inside.
    ⊎_elim (λ before. find-before shown column (plain_clusters style text) before)
    (λ later. find-ended shown column (plain_clusters style text)
    (omega (arith, clusters_width-plain style text printable, plain_past cells pen left column count hidden displayed at drawn x y (sym test ∙ h) inside later))) (cases_lt shown column))
