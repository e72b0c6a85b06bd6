-- The stored number of lines and of visual rows before each block.
use Rattle.std.specs.Prelude.{◌≡◌, ℕ, ◌+◌, ◌-◌, ◌*◌, ◌^◌, ◌<◌, ◌≤◌, List, length, take, get_or}
use Rattle.textarea_util.specs.Limit.{size_limit}
use Rattle.textarea_wrap.specs.RowsView.{RowsView}
use Rattle.textarea_blocks.specs.declared.blocks.numbers.Exchanged.{Exchanged}
use Rattle.textarea_blocks.specs.Blocks.{all_rows}
use Rattle.textarea_blocks.specs.Shifted.{CanShift}
use Rattle.textarea_blocks.specs.Sums.{row_total}

-- there is a number for each block: the total of all lines before it
pub record AreTotals (total : List RowsView → ℕ) (blocks : List (List RowsView)) (numbers : List ℕ) : Type 0 where
  pub len : length numbers ≡ length blocks
  pub right : (k : ℕ) → k < length blocks → get_or numbers k 0 ≡ total (all_rows (take k blocks))

-- The stored numbers of lines and of visual rows before each block are right. Both totals are at
-- most twice the limit, since removed and new rows exist together for a while; no sum overflows.
pub record AreNumbered (blocks : List (List RowsView)) (lines rows : List ℕ) : Type 0 where
  pub lines_are : AreTotals length blocks lines
  pub rows_are : AreTotals row_total blocks rows
  pub few_lines : length (all_rows blocks) ≤ 2 * size_limit
  pub few_rows : row_total (all_rows blocks) ≤ 2 * size_limit

-- The replacement of old numbers by new ones can be made: there is room for so many more numbers, and
-- no sum overflows.
pub record CanExchange (old new : List ℕ) (spare : ℕ) (exchanged : Exchanged) : Type 0 where
  pub ordered : exchanged.from ≤ exchanged.to
  pub within : exchanged.to ≤ length old
  pub room : length new ≤ spare + (exchanged.to - exchanged.from)
  pub after : CanShift old exchanged.to exchanged.gone exchanged.come
  pub small_new : (k : ℕ) → k < length new → get_or new k 0 + exchanged.before < 2 ^ 64

-- The numbers after a replacement of blocks: those above it are unchanged, those of the new blocks
-- begin at the items before, and those after it are adjusted by what was added and removed.
pub record AreExchanged (old new : List ℕ) (exchanged : Exchanged) (now : List ℕ) : Type 0 where
  pub len : length now + (exchanged.to - exchanged.from) ≡ length old + length new
  pub above : (k : ℕ) → k < exchanged.from → get_or now k 0 ≡ get_or old k 0
  pub between : (k : ℕ) → k < length new → get_or now (exchanged.from + k) 0 ≡ get_or new k 0 + exchanged.before
  pub after : (k : ℕ) → exchanged.to ≤ k → k < length old → get_or now (k - exchanged.to + (exchanged.from + length new)) 0 + exchanged.gone ≡ get_or old k 0 + exchanged.come
