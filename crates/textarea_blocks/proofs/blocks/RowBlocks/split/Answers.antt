use Rattle.std.proofs.lemmas.Grind.{common_steps}
use Rattle.std.proofs.Common.{◌≡◌, ◌+◌, ◌-◌, ◌<◌, ◌≤◌, ◌∷◌, ◌∙◌, List, [], ap, arith, drop, get_or, length, refl, set, take, vec_capacity, vec_len, ℕ}
use Rattle.std.proofs.lemmas.List.{append-nil, get_or-set_same, length-drop, length-set, length-take-le}
use Rattle.textarea_blocks.specs.Prelude.{RowsView, BlocksView, replaced, all_rows, row_total}
use Rattle.textarea_blocks.proofs.InBlocks.{block_count, block_split, lines_sum, rows_are, rows_sum, spare_count}
use Rattle.textarea_blocks.proofs.Numbers.{row_total-take_drop}
use Rattle.textarea_blocks.proofs.Splits.{spare_above, spare_first}
use Rattle.textarea_blocks.proofs.Totals.{all_set}
use Rattle.textarea_blocks.proofs.blocks.RowBlocks.split.Goals as goal
use Rattle.textarea_blocks.proofs.blocks.RowBlocks.split.Goals.{After-exchange_blocks, After-split_block_off}

-- the rows that are removed from the block, and those that remain
record SplitBlocks (blocks now : List (List RowsView)) (block at : ℕ) (rows : List RowsView) : Type 0 where
  rows_are : rows ≡ drop at (get_or blocks block [])
  now_is : now ≡ set blocks block (take at (get_or blocks block []))
  line_sum : length (all_rows now) + length rows ≡ length (all_rows blocks)
  row_sum : row_total (all_rows now) + row_total rows ≡ row_total (all_rows blocks)
  few_lines : length (all_rows blocks) ≤ 562949953421312
  few_rows : row_total (all_rows blocks) ≤ 562949953421312

split_is : (c : After-split_block_off) → SplitBlocks c.args.self.now.blocks c.split_block_off.new.self.blocks c.args.block c.args.at c.split_block_off.result.items
split_is c =
    let blocks = c.args.self.now.blocks in
    let block = c.args.block in
    let at = c.args.at in
    let here = get_or blocks block [] in
    let same = c.in_ok-reserve.ensures.same in
    let rest : c.split_block_off.result.items ≡ drop at here = c.split_block_off.ensures.portion ∙ ap (λ (t : List (List RowsView)). drop at (get_or t block [])) same in
    let now : c.split_block_off.new.self.blocks ≡ set blocks block (take at here) = c.split_block_off.ensures.retained ∙ ap (λ (t : List (List RowsView)). set t block (take at (get_or t block []))) same in
    record {
      rows_are = rest;
      now_is = now;
      line_sum = omega (arith, ap length rest, ap (λ t. length (all_rows t)) now, all_set length lines_sum blocks block (take at here) c.requires.block, length-take-le at here c.requires.at, length-drop at here);
      row_sum = omega (arith, ap row_total rest, ap (λ t. row_total (all_rows t)) now, all_set row_total rows_sum blocks block (take at here) c.requires.block, row_total-take_drop at here);
      few_lines = omega (arith, c.self.invariant.few_lines, ap (λ (v : BlocksView). length (all_rows v.blocks)) c.self.view_is);
      few_rows = omega (arith, c.self.invariant.few_rows, ap (λ (v : BlocksView). row_total (all_rows v.blocks)) c.self.view_is);
    }

one : (rows : List RowsView) → all_rows (rows ∷ []) ≡ rows
one rows = append-nil rows

pub put_first-requires-clause-lines : goal.put_first-requires-clause-lines
put_first-requires-clause-lines c =
    let known = split_is (goal.at.put_first-requires-clause-lines c).After-split_block_off in
    omega (arith, known.line_sum, known.few_lines, c.split_block_off.result.ok.0)

pub put_first-requires-clause-rows : goal.put_first-requires-clause-rows
put_first-requires-clause-rows c =
    let known = split_is (goal.at.put_first-requires-clause-rows c).After-split_block_off in
    omega (arith, known.row_sum, known.few_rows)

pub exchange_blocks-requires-clause-lines : goal.exchange_blocks-requires-clause-lines
exchange_blocks-requires-clause-lines c =
    let known = split_is (goal.at.exchange_blocks-requires-clause-lines c).After-split_block_off in
    omega (arith, known.line_sum, known.few_lines, ap (λ t. length (all_rows t)) c.put_first.ensures.blocks, ap length (one c.split_block_off.result.items))

pub exchange_blocks-requires-clause-rows : goal.exchange_blocks-requires-clause-rows
exchange_blocks-requires-clause-rows c =
    let known = split_is (goal.at.exchange_blocks-requires-clause-rows c).After-split_block_off in
    omega (arith, known.row_sum, known.few_rows, ap (λ t. row_total (all_rows t)) c.put_first.ensures.blocks, ap row_total (one c.split_block_off.result.items))

-- the blocks after the split
blocks_are :
    (c : After-exchange_blocks) → SplitBlocks c.args.self.now.blocks c.split_block_off.new.self.blocks c.args.block c.args.at c.split_block_off.result.items → c.exchange_blocks.new.self.blocks
    ≡ replaced (set c.args.self.now.blocks c.args.block (take c.args.at (get_or c.args.self.now.blocks c.args.block []))) (c.args.block + 1) 0 (drop c.args.at (get_or c.args.self.now.blocks c.args.block []) ∷ [])
blocks_are c known =
    let next = c.args.block + 1 in
    let none : next - next ≡ 0 = omega arith in
    c.exchange_blocks.ensures.blocks
    ∙ ap (λ n. replaced c.split_block_off.new.self.blocks next n c.put_first.new.self.blocks) none
    ∙ ap (λ t. replaced t next 0 c.put_first.new.self.blocks) known.now_is
    ∙ ap (replaced (set c.args.self.now.blocks c.args.block (take c.args.at (get_or c.args.self.now.blocks c.args.block []))) next 0) (c.put_first.ensures.blocks ∙ ap (λ t. t ∷ []) known.rows_are)

pub returns-clause-same : goal.returns-clause-same
returns-clause-same c =
    let at = goal.at.returns-clause-same c in
    ap all_rows (blocks_are at.After-exchange_blocks (split_is at.After-split_block_off)) ∙ block_split c.args.self.now.blocks c.args.block c.args.at c.requires.block

pub returns-clause-split : goal.returns-clause-split
returns-clause-split c =
    let at = goal.at.returns-clause-split c in
    let known = split_is at.After-split_block_off in
    let old = c.args.self.now in
    let items = c.self.inside.blocks.items in
    let block = c.args.block in
    let next = block + 1 in
    let here = get_or old.blocks block [] in
    let cut = c.split_block_off.new.self.spare in
    let whole = c.reserve.new.self in
    let same = c.in_ok-reserve.ensures.same in
    let room : whole.spare ≡ old.spare = c.in_ok-reserve.ensures.spare in
    let there : block < length items = omega (arith, c.requires.block, ap (λ (v : BlocksView). length v.blocks) c.self.view_is, block_count items) in
    let within : block < length whole.spare = omega (arith, there, spare_count items, ap (λ (v : BlocksView). length v.spare) c.self.view_is, ap length room) in
    let count : length cut ≡ length whole.spare = ap length c.split_block_off.ensures.spare ∙ length-set whole.spare block _ in
    let size : c.len.result ≡ length here = grind (arith, common_steps, rows_are, block_count) in
    let rest = vec_capacity c.split_block_off.result - vec_len c.split_block_off.result in
    record {
      blocks = blocks_are at.After-exchange_blocks known;
      first =
          ap (λ t. get_or t block 0) c.exchange_blocks.ensures.spare
          ∙ spare_above cut c.put_first.new.self.spare next (next - next) block (omega arith) (omega (arith, within, count))
          ∙ ap (λ t. get_or t block 0) c.split_block_off.ensures.spare
          ∙ get_or-set_same whole.spare block _ 0 within
          ∙ ap (λ t. get_or t block 0 + (length (get_or whole.blocks block []) - c.args.at)) room
          ∙ ap (λ t. get_or old.spare block 0 + (length (get_or t block []) - c.args.at)) same;
      second = omega (
        arith,
        ap (λ t. get_or t next 0) c.exchange_blocks.ensures.spare,
        ap (λ t. get_or (replaced cut next (next - next) t) next 0) c.put_first.ensures.spare,
        spare_first cut next (next - next) rest (omega (arith, within, count)),
        c.split_block_off.ensures.capacity,
        c.in_ok-rest.ensures.capacity,
        c.in_ok-len.ensures.size,
        c.in_ok-len.ensures.limit.0 refl,
        c.saturating_add-room.ensures,
        size,
        ap length known.rows_are,
        length-drop c.args.at here,
        c.requires.at,
        c.split_block_off.result.ok.0,
      );
    }
