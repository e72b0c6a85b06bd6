-- The greatest column of a row, and columns that are not before it.
use Rattle.std.proofs.Common.{◌≡◌, ℕ, ◌-◌, ◌*◌, ◌^◌, ◌<◌, ◌≤◌, min, max, Bool, true, false, cond, List, length, take, ap, subst, arith, IsUtf8}
use Rattle.std.specs.Str.{chars}
use Rattle.std.proofs.lemmas.List.{length-take}
use Rattle.std.proofs.lemmas.Str.{encodes-chars, length-le-encodes}
use Rattle.textarea_wrap.specs.Columns.{display_end_column}
use Rattle.textarea_wrap.proofs.FittingLemmas.{end_column-few}
use Rattle.textarea_screen_map.specs.BorrowedLines.{BorrowedRows}
use Rattle.textarea_screen_map.specs.VisualPositions.{IsPlaceAt}
use Rattle.textarea_screen_map.specs.VisualRows.{column_at, greatest_column, row_width}
use Rattle.textarea_view.specs.Hit.{IsNear, greatest_at}
use Rattle.textarea_view.specs.Prelude.{Place, RowView, VisualRow, hit_column}

few : (tab_len : ℕ) (cs : List ℕ) (n : ℕ) → tab_len < 2 ^ 8 → length cs ≤ n → display_end_column tab_len 0 cs ≤ 255 * n
few tab_len cs n small short = omega (arith, end_column-few (max tab_len 1) cs (omega arith), short)

pub greatest-few : (tab_len : ℕ) (text : List ℕ) (row : VisualRow) → tab_len < 2 ^ 8 → IsUtf8 text → row.text ≡ chars text → greatest_column tab_len row ≤ length text * 255
greatest-few tab_len text row small utf8 is = by row.is_last
  where
    short : length row.text ≤ length text
    short = omega (arith, ap length is, length-le-encodes (chars text), ap length (encodes-chars text utf8))

    by : (last : Bool) → cond last (row_width tab_len row) (column_at tab_len row.text (length row.text - 1)) ≤ length text * 255
    by true = omega (arith, few tab_len row.text (length text) small short)
    by false =
        omega (arith, few tab_len (take (length row.text - 1) row.text) (length text) small (omega (arith, short, length-take (length row.text - 1) row.text)))

-- a column past the greatest one shows the same position
pub nearer : (rows : BorrowedRows) (view : RowView) (row x most : ℕ) (place : Place) → greatest_at rows row ≤ most → IsNear rows (record { row = row; column = hit_column view most x }) place →
    IsNear rows (record { row = row; column = hit_column view (greatest_at rows row) x }) place
nearer rows view row x most place within near =
    subst (λ n. IsPlaceAt rows.wrapping.tab_len rows.lines rows.rows (record { row = row; column = n }) place)
    (let same : min (hit_column view most x) (greatest_at rows row) ≡ min (hit_column view (greatest_at rows row) x) (greatest_at rows row) = omega (arith, within) in same) near
