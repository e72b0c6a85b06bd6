-- The numbers of lines and of visual rows before blocks, as blocks change.
use Rattle.std.proofs.lemmas.Grind.{common_steps}
use Rattle.std.proofs.Common.{◌≡◌, ℕ, ◌+◌, ◌-◌, ◌*◌, ◌^◌, ◌<◌, ◌≤◌, inl, inr, List, [], ◌∷◌, ◌++◌, length, take, drop, get_or, set, sym, ap, ◌∙◌, arith}
use Rattle.std.proofs.lemmas.Bool.{cases_lt}
use Rattle.std.proofs.lemmas.List.{drop-set-lt, get_or-append-add, get_or_append_left, get_or-set_same, length-append, length-set, length-take-le, take-append-le, take-set-le, take-take}
use Rattle.std.proofs.Math.Seq.{take-append-add}
use Rattle.textarea_blocks.specs.Prelude.{RowsView, replaced, Exchanged, all_rows, AreExchanged, AreShifted, AreTotals, CanExchange, CanShift, size_limit}
use Rattle.textarea_blocks.specs.Numbered.{AreNumbered}
use Rattle.textarea_blocks.specs.Sums.{row_total}
use Rattle.textarea_util.proofs.Replacing.{length-replaced}
use Rattle.textarea_blocks.proofs.InBlocks.{all_rows-append, before_all, before_further, before_more, before_ordered, before_within, lines_sum, rows_sum, total_before}
use Rattle.textarea_blocks.proofs.LineSums.{IsSum, Sum}

-- lines of a block are replaced: `gone` is the sum of the removed ones, `come` that of the new ones
pub record BlockChange (total : Sum) (blocks : List (List RowsView)) (block gone come : ℕ) (rows : List RowsView) : Type 0 where
  pub within : block < length blocks
  pub segment : gone ≤ total (get_or blocks block [])
  pub sum : total rows + gone ≡ total (get_or blocks block []) + come
  pub few : total (all_rows blocks) + come ≤ 2 * size_limit

-- whole blocks are replaced, with these sums before them, of them, and of the new ones
pub record BlocksChange (total : Sum) (blocks new : List (List RowsView)) (exchanged : Exchanged) : Type 0 where
  pub ordered : exchanged.from ≤ exchanged.to
  pub within : exchanged.to ≤ length blocks
  pub before : exchanged.before ≡ total_before total blocks exchanged.from
  pub gone : exchanged.before + exchanged.gone ≡ total_before total blocks exchanged.to
  pub come : exchanged.come ≡ total (all_rows new)
  pub few : total (all_rows blocks) + total (all_rows new) ≤ 2 * size_limit

pub totals_pushed :
    (total : Sum) (blocks : List (List RowsView)) (numbers : List ℕ) (number : ℕ) (rows : List RowsView) → AreTotals total blocks numbers
    → number ≡ total (all_rows blocks) → AreTotals total (blocks ++ rows ∷ []) (numbers ++ number ∷ [])
totals_pushed total blocks numbers number rows h is =
    record {
      len = omega (arith, h.len, length-append blocks (rows ∷ []), length-append numbers (number ∷ []));
      right = λ k there.
          let first = ap (λ t. total (all_rows t)) (sym (take-append-le k blocks (rows ∷ []) (omega (arith, there, length-append blocks (rows ∷ []))))) in
          elim (cases_lt k (length blocks)) [
            | inl less ↦
                get_or_append_left numbers (number ∷ []) 0 k (omega (arith, h.len)) ∙ h.right k less ∙ first
            | inr most ↦
                let last : length numbers + 0 ≡ k = omega (arith, h.len, there, length-append blocks (rows ∷ [])) in
                ap (λ n. get_or (numbers ++ number ∷ []) n 0) (sym last) ∙ get_or-append-add numbers (number ∷ []) 0 0 ∙ is ∙ sym (before_all total blocks k most) ∙ first
          ];
    }

pub take_above : (blocks new : List (List RowsView)) (from count k : ℕ) → k ≤ from → from ≤ length blocks → take k (replaced blocks from count new) ≡ take k blocks
take_above blocks new from count k above within =
    grind (arith, common_steps, length-take-le from blocks within, take-append-le, take-take k from blocks above)

pub take_between : (blocks new : List (List RowsView)) (from count k : ℕ) → k ≤ length new → from ≤ length blocks → take (from + k) (replaced blocks from count new) ≡ take from blocks ++ take k new
take_between blocks new from count k inside within = grind (arith, common_steps, length-take-le from blocks within, take-append-add, take-append-le)

split_block_off : (blocks new : List (List RowsView)) (from count k : ℕ) → from ≤ length blocks → take (from + (length new + k)) (replaced blocks from count new) ≡ take from blocks ++ (new ++ take k (drop (from + count) blocks))
split_block_off blocks new from count k within = grind (arith, common_steps, length-take-le from blocks within, take-append-add)

module _ (total : Sum) (sum : IsSum total) where
  -- the block that a number is in, found by a search
  pub located_at :
      (blocks : List (List RowsView)) (numbers : List ℕ) (number block : ℕ) → AreTotals total blocks numbers → block < length numbers
      → get_or numbers block 0 ≤ number → (block + 1 < length numbers → number < get_or numbers (block + 1) 0) → number < total (all_rows blocks)
      → (total_before total blocks block ≤ number) × (number < total_before total blocks (block + 1))
  located_at blocks numbers number block h within from next there = (
    omega (arith, h.right block (omega (arith, h.len)), from),
    elim (cases_lt (block + 1) (length numbers)) [
      | inl more ↦ omega (arith, h.right (block + 1) (omega (arith, h.len)), next more)
      | inr most ↦ omega (arith, before_all total blocks (block + 1) (omega (arith, h.len)), there)
    ],
  )

  -- the numbers from a block on can be shifted
  pub totals_can_shift :
      (blocks : List (List RowsView)) (numbers : List ℕ) (from gone come : ℕ) → AreTotals total blocks numbers
      → gone ≤ total_before total blocks from + come → total (all_rows blocks) + come < 2 ^ 64 → CanShift numbers from gone come
  totals_can_shift blocks numbers from gone come h enough small = record {
    enough = λ k after there. omega (arith, h.right k (omega (arith, h.len)), before_ordered total sum blocks from k after);
    small = λ k after there. omega (arith, h.right k (omega (arith, h.len)), before_within total sum blocks k);
  }

  pub total_set :
      (blocks : List (List RowsView)) (block k : ℕ) (rows : List RowsView) → block < length blocks → block < k
      → total_before total (set blocks block rows) k + total (get_or blocks block []) ≡ total_before total blocks k + total rows
  total_set blocks block k rows within after =
      let now = set blocks block rows in
      let below = λ (t : List (List RowsView)). before_further total sum t (block + 1) (k - (block + 1)) in
      let here = before_more total sum now block (omega (arith, length-set blocks block rows)) in
      let same = drop-set-lt (block + 1) blocks block rows (omega arith) in
      grind (arith, common_steps, below now, below blocks, same, here, before_more total sum blocks block within, take-set-le block blocks block rows (omega arith), get_or-set_same blocks block rows)

  -- and the total of all blocks
  pub all_set : (blocks : List (List RowsView)) (block : ℕ) (rows : List RowsView) → block < length blocks → total (all_rows (set blocks block rows)) + total (get_or blocks block []) ≡ total (all_rows blocks) + total rows
  all_set blocks block rows within =
      grind (arith, common_steps, total_set blocks block (length blocks) rows within within, before_all, length-set blocks block rows)

  -- the numbers after the block can be shifted, and are then right
  pub block_can_shift :
      (blocks : List (List RowsView)) (numbers : List ℕ) (block gone come : ℕ) (rows : List RowsView) → AreTotals total blocks numbers
      → BlockChange total blocks block gone come rows → CanShift numbers (block + 1) gone come
  block_can_shift blocks numbers block gone come rows h change =
      totals_can_shift blocks numbers (block + 1) gone come h (omega (arith, change.segment, before_more total sum blocks block change.within)) (omega (arith, change.few))

  pub block_few : (blocks : List (List RowsView)) (block gone come : ℕ) (rows : List RowsView) → BlockChange total blocks block gone come rows → total (all_rows (set blocks block rows)) ≤ 2 * size_limit
  block_few blocks block gone come rows change =
      omega (arith, all_set blocks block rows change.within, change.sum, change.few)

  pub block_totals :
      (blocks : List (List RowsView)) (numbers now : List ℕ) (block gone come : ℕ) (rows : List RowsView) → AreTotals total blocks numbers
      → BlockChange total blocks block gone come rows → AreShifted numbers now (block + 1) gone come → AreTotals total (set blocks block rows) now
  block_totals blocks numbers now block gone come rows h change shifted =
      let same = length-set blocks block rows in
      record {
        len = omega (arith, same, h.len, shifted.len);
        right = λ k there. elim (cases_lt block k) [
          | inl after ↦
              omega (arith, shifted.moved k (omega arith) (omega (arith, same, h.len)), h.right k (omega (arith, same)), total_set blocks block k rows change.within after, change.sum)
          | inr before ↦
              shifted.above k (omega arith) ∙ h.right k (omega (arith, same)) ∙ ap (λ t. total (all_rows t)) (sym (take-set-le k blocks block rows before))
        ];
      }

  -- the total before a block after the new ones
  pub total_after :
      (blocks new : List (List RowsView)) (from to k : ℕ) → from ≤ to → to ≤ length blocks
      → total_before total (replaced blocks from (to - from) new) (from + (length new + k)) + total_before total blocks to ≡ total_before total blocks (to + k) + total_before total blocks from + total (all_rows new)
  total_after blocks new from to k ordered within =
      grind (arith, common_steps, split_block_off, all_rows-append, before_further total sum blocks to k)

  -- and the total of all blocks
  pub all_exchanged :
      (blocks new : List (List RowsView)) (from to : ℕ) → from ≤ to → to ≤ length blocks
      → total (all_rows (replaced blocks from (to - from) new)) + total_before total blocks to ≡ total (all_rows blocks) + total_before total blocks from + total (all_rows new)
  all_exchanged blocks new from to ordered within =
      let more = length blocks - to in
      let end : to + more ≡ length blocks = omega arith in
      let size = length-replaced blocks from (to - from) new (omega arith) in
      let whole = before_all total (replaced blocks from (to - from) new) (from + (length new + more)) (omega (arith, size)) in
      grind (arith, common_steps, total_after blocks new from to more ordered within, whole, before_all total blocks (to + more) (omega (arith, end)))

  -- the numbers of the blocks can be replaced, and are then right
  pub blocks_can_exchange :
      (blocks new : List (List RowsView)) (numbers news : List ℕ) (spare : ℕ) (exchanged : Exchanged) → AreTotals total blocks numbers
      → AreTotals total new news → BlocksChange total blocks new exchanged → length new ≤ spare + (exchanged.to - exchanged.from) → CanExchange numbers news spare exchanged
  blocks_can_exchange blocks new numbers news spare exchanged h more change room = record {
    ordered = change.ordered;
    within = omega (arith, h.len, change.within);
    room = omega (arith, more.len);
    after = totals_can_shift blocks numbers exchanged.to exchanged.gone exchanged.come h (omega (arith, change.gone)) (omega (arith, change.few, change.come));
    small_new = λ k there.
        omega (arith, change.before, before_within total sum blocks exchanged.from, before_within total sum new k, more.right k (omega (arith, there, more.len)), change.few);
  }

  pub blocks_few : (blocks new : List (List RowsView)) (exchanged : Exchanged) → BlocksChange total blocks new exchanged → total (all_rows (replaced blocks exchanged.from (exchanged.to - exchanged.from) new)) ≤ 2 * size_limit
  blocks_few blocks new exchanged change =
      omega (arith, all_exchanged blocks new exchanged.from exchanged.to change.ordered change.within, before_ordered total sum blocks exchanged.from exchanged.to change.ordered, change.few)

  pub blocks_totals :
      (blocks new : List (List RowsView)) (numbers news now : List ℕ) (exchanged : Exchanged) → AreTotals total blocks numbers
      → AreTotals total new news → BlocksChange total blocks new exchanged → AreExchanged numbers news exchanged now
      → AreTotals total (replaced blocks exchanged.from (exchanged.to - exchanged.from) new) now
  blocks_totals blocks new numbers news now exchanged h more change turned =
      let from = exchanged.from in
      let to = exchanged.to in
      let ordered = change.ordered in
      let within = change.within in
      let size = length-replaced blocks from (to - from) new (omega arith) in
      record {
        len = omega (arith, turned.len, size, h.len, more.len);
        right = λ k there. elim (cases_lt k from) [
          | inl above ↦
              turned.above k above ∙ h.right k (omega arith)
              ∙ ap (λ t. total (all_rows t)) (sym (take_above blocks new from (to - from) k (omega arith) (omega arith)))
          | inr after ↦
              elim (cases_lt (k - from) (length new)) [
                | inl less ↦
                    let at : from + (k - from) ≡ k = omega arith in
                    omega (
                      arith,
                      ap (λ n. get_or now n 0) at,
                      turned.between (k - from) (omega (arith, more.len)),
                      more.right (k - from) less,
                      change.before,
                      ap (total_before total (replaced blocks from (to - from) new)) at,
                      ap (λ t. total (all_rows t)) (take_between blocks new from (to - from) (k - from) (omega arith) (omega arith)),
                      ap total (all_rows-append (take from blocks) (take (k - from) new)),
                      sum (all_rows (take from blocks)) (all_rows (take (k - from) new)),
                    )
                | inr most ↦
                    let last = k - from - length new in
                    let at : to + last - to + (from + length news) ≡ k = omega (arith, more.len) in
                    let here : from + (length new + last) ≡ k = omega arith in
                    let inside : to + last < length blocks = omega (arith, there, size) in
                    omega (
                      arith,
                      ap (λ n. get_or now n 0) at,
                      turned.after (to + last) (omega arith) (omega (arith, h.len, inside)),
                      h.right (to + last) inside,
                      change.before,
                      change.gone,
                      change.come,
                      ap (total_before total (replaced blocks from (to - from) new)) here,
                      total_after blocks new from to last ordered within,
                    )
              ]
        ];
      }

-- both numbers of the blocks are right after a change of one block
pub block_numbered :
    (blocks : List (List RowsView)) (lines rows lines_now rows_now : List ℕ) (block lines_gone lines_come rows_gone rows_come : ℕ) (now : List RowsView)
    → AreNumbered blocks lines rows → BlockChange length blocks block lines_gone lines_come now → BlockChange row_total blocks block rows_gone rows_come now
    → AreShifted lines lines_now (block + 1) lines_gone lines_come → AreShifted rows rows_now (block + 1) rows_gone rows_come → AreNumbered (set blocks block now) lines_now rows_now
block_numbered blocks lines rows lines_now rows_now block lines_gone lines_come rows_gone rows_come now h by_lines by_rows lines_shifted rows_shifted = record {
  lines_are = block_totals length lines_sum blocks lines lines_now block lines_gone lines_come now h.lines_are by_lines lines_shifted;
  rows_are = block_totals row_total rows_sum blocks rows rows_now block rows_gone rows_come now h.rows_are by_rows rows_shifted;
  few_lines = block_few length lines_sum blocks block lines_gone lines_come now by_lines;
  few_rows = block_few row_total rows_sum blocks block rows_gone rows_come now by_rows;
}
