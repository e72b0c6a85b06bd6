-- Sums over lines, of their visual rows and of their sizes, as lines are replaced.
use Rattle.std.proofs.Common.{◌≡◌, ℕ, ◌+◌, ◌-◌, ◌<◌, ◌≤◌, List, [], ◌∷◌, ◌++◌, length, take, drop, get_or, sym, ap, refl, ◌∙◌, arith}
use Rattle.std.proofs.lemmas.List.{take_more, take-append-drop, drop-drop}
use Rattle.textarea_blocks.specs.Prelude.{RowsView, replaced, line_bytes, row_total, size_total}
use Rattle.textarea_blocks.proofs.Numbers.{row_total-append}

pub size_total-append : (rows more : List RowsView) → size_total (rows ++ more) ≡ size_total rows + size_total more
size_total-append [] more = omega arith
size_total-append (r ∷ rows) more = omega (arith, size_total-append rows more)

-- one line more
pub size_total-more : (rows : List RowsView) (i : ℕ) (r : RowsView) → i < length rows → r ≡ get_or rows i r → size_total (take (i + 1) rows) ≡ size_total (take i rows) + line_bytes r.ranges + 1
size_total-more rows i r within e =
    rw (take_more rows i r within, ← e) (omega (arith, size_total-append (take i rows) (r ∷ [])))

-- a sum over lines: of their rows, or of their sizes
abbrev pub Sum : Type 0
Sum = List RowsView → ℕ

abbrev pub IsSum : Sum → Type 0
IsSum total = (rows more : List RowsView) → total (rows ++ more) ≡ total rows + total more

-- the removed lines' sum is within the total, and the total changes by it and by the new sum
pub record Exchange (total : Sum) (rows removed_rows new : List RowsView) (row count : ℕ) : Type 0 where
  pub segment : total removed_rows ≤ total rows
  pub after : total rows - total removed_rows + total new ≡ total (replaced rows row count new)

pub exchange : (total : Sum) (rows removed_rows new : List RowsView) (row count : ℕ) → IsSum total → removed_rows ≡ take count (drop row rows) → Exchange total rows removed_rows new row count
exchange total rows removed_rows new row count sum is =
    let below = drop (row + count) rows in
    let whole : total rows ≡ total (take row rows) + (total removed_rows + total below) =
    sym (ap total (take-append-drop row rows)) ∙ sum (take row rows) (drop row rows)
    ∙ ap (λ n. total (take row rows) + n) (sym (ap total (take-append-drop count (drop row rows))) ∙ sum (take count (drop row rows)) (drop count (drop row rows)) ∙ omega (arith, ap total is, ap total (drop-drop count row rows))) in
    record {
      segment = omega (arith, whole);
      after = omega (arith, whole, sum (take row rows) (new ++ below), sum new below);
    }

-- the removed lines are sliced as the code does it
pub rows_exchanged : (rows retained new : List RowsView) (row count : ℕ) → retained ≡ rows → Exchange row_total rows (take (row + count - row) (drop row retained)) new row count
rows_exchanged rows retained new row count is =
    let size : row + count - row ≡ count = omega arith in
    exchange row_total rows _ new row count row_total-append (rw (size, is) refl)

-- each line adds at least 1 to the size
pub lines_few : (rows : List RowsView) → length rows ≤ size_total rows
lines_few [] = omega arith
lines_few (r ∷ rows) = omega (arith, lines_few rows)
