-- The number of visual rows of lines, as lines are replaced.
use Rattle.std.proofs.lemmas.Grind.{common_steps}
use Rattle.std.proofs.Common.{◌≡◌, ℕ, ◌+◌, ◌≤◌, ◌<◌, List, [], ◌∷◌, ◌++◌, length, take, drop, get_or, map, sum_by, sym, ap, refl, ◌∙◌, arith}
use Rattle.std.proofs.lemmas.List.{take_all, take_more, take-append-drop}
use Rattle.std.proofs.lemmas.Bool.{cases_lt}
use Rattle.std.proofs.lemmas.List.Sums.{sum_by-cons}
use Rattle.textarea_blocks.specs.Prelude.{RowsView, row_total, replaced}

pub row_total-append : (rows more : List RowsView) → row_total (rows ++ more) ≡ row_total rows + row_total more
row_total-append [] more = omega arith
row_total-append (r ∷ rows) more = omega (arith, row_total-append rows more)

pub row_total-take_drop : (n : ℕ) (rows : List RowsView) → row_total (take n rows) + row_total (drop n rows) ≡ row_total rows
row_total-take_drop n rows = sym (row_total-append (take n rows) (drop n rows)) ∙ ap row_total (take-append-drop n rows)

-- one line more
pub row_total-more : (rows : List RowsView) (i : ℕ) (r : RowsView) → i < length rows → r ≡ get_or rows i r → row_total (take (i + 1) rows) ≡ row_total (take i rows) + length r.ranges
row_total-more rows i r within e =
    rw (take_more rows i r within, ← e) (omega (arith, row_total-append (take i rows) (r ∷ [])))

pub row_total-take_le : (n : ℕ) (rows : List RowsView) → row_total (take n rows) ≤ row_total rows
row_total-take_le n rows = omega (arith, row_total-take_drop n rows)

-- the rows of the removed lines, and of the new ones
pub row_total-replaced : (rows new : List RowsView) (start count : ℕ) → row_total (replaced rows start count new) + row_total (take (start + count) rows) ≡ row_total rows + row_total (take start rows) + row_total new
row_total-replaced rows new start count =
    omega (arith, row_total-append (take start rows) (new ++ drop (start + count) rows), row_total-append new (drop (start + count) rows), row_total-take_drop (start + count) rows)

-- the rows of the lines, added up line by line
pub row_total-sum : (rows : List RowsView) → row_total rows ≡ sum_by length (map (λ (r : RowsView). r.ranges) rows)
row_total-sum [] = refl
row_total-sum (r ∷ rows) = ap (λ n. length r.ranges + n) (row_total-sum rows) ∙ sym (sum_by-cons length r.ranges (map (λ (s : RowsView). s.ranges) rows))

-- a visual row after the first lines is one of a line that exists
pub line_there : (rows : List RowsView) (line left row : ℕ) → row_total (take line rows) + left ≡ row → row < row_total rows → line < length rows
line_there rows line left row is within = grind (arith, common_steps, cases_lt line (length rows), take_all)
