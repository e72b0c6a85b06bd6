use Rattle.std.proofs.lemmas.Grind.{common_steps}
use Rattle.std.proofs.Common.{◌≡◌, ◌+◌, ◌<◌, ◌≤◌, List, [], arith, get_or, length, ℕ}
use Rattle.textarea_blocks.specs.Prelude.{replaced, RowsView, rows_of_each, row_total}
use Rattle.textarea_util.proofs.Replacing.{length-replaced}
use Rattle.textarea_blocks.proofs.InBlocks.{before_more, before_within, block_count, blocks_set, lines_sum, rows_are, rows_sum}
use Rattle.textarea_blocks.proofs.LineSums.{rows_exchanged}
use Rattle.textarea_blocks.proofs.Totals.{BlockChange, block_can_shift, block_numbered}
use Rattle.textarea_blocks.proofs.blocks.RowBlocks.exchange.Goals as goal
use Rattle.textarea_blocks.proofs.blocks.RowBlocks.exchange.Goals.{After-replace_items}

-- the block after it, and what changed
record Exchanged (blocks : List (List RowsView)) (block start count rows_gone lines_come rows_come : ℕ) (now new : List RowsView) : Type 0 where
  now_is : now ≡ replaced (get_or blocks block []) start count new
  lines : BlockChange length blocks block count lines_come now
  rows : BlockChange row_total blocks block rows_gone rows_come now

exchanged :
    (c : After-replace_items) → Exchanged (rows_of_each c.self.inside.blocks.items) c.args.block c.args.start c.args.count c.count_rows-rows_gone.result
    (length c.as_slice-new_rows.result.now) c.count_rows-rows_come.result c.replace_items.new.items.items c.args.rows.items
exchanged c =
    let items = c.self.inside.blocks.items in
    let block = c.args.block in
    let start = c.args.start in
    let count = c.args.count in
    let new = c.args.rows.items in
    let blocks = rows_of_each items in
    let here = get_or blocks block [] in
    let within : block < length blocks = grind (arith, common_steps) in
    let inside : start + count ≤ length here = grind (arith, common_steps) in
    let before : c.as_slice.result.now ≡ here = grind (arith, common_steps, rows_are, block_count) in
    let now : c.replace_items.new.items.items ≡ replaced here start count new = grind (arith, common_steps, rows_are, block_count) in
    let sums = rows_exchanged here c.as_slice.result.now new start count before in
    let few = before_within row_total rows_sum blocks (block + 1) in
    let all = before_more row_total rows_sum blocks block within in
    record {
      now_is = now;
      lines = record { within = within; segment = omega arith; sum = grind (arith, common_steps, now, length-replaced here start count new inside); few = grind (arith, common_steps) };
      rows = record { within = within; segment = grind (arith, common_steps, sums, all, few); sum = grind (arith, common_steps, now, sums, all, few); few = grind (arith, common_steps) };
    }

pub shift_both-requires : goal.shift_both-requires
shift_both-requires c =
    let known = exchanged (goal.at.shift_both-requires c).After-replace_items in
    record {
      lines = block_can_shift length lines_sum _ _ _ _ _ _ c.self.invariant.lines_are known.lines;
      rows = block_can_shift row_total rows_sum _ _ _ _ _ _ c.self.invariant.rows_are known.rows;
    }

pub invariant_of-self : goal.invariant_of-self
invariant_of-self c =
    let known = exchanged (goal.at.invariant_of-self c).After-replace_items in
    rw (blocks_set c.self.inside.blocks.items c.args.block c.replace_items.new.items)
    (block_numbered _ _ _ _ _ _ _ _ _ _ _ c.self.invariant known.lines known.rows c.shift_both.ensures.lines c.shift_both.ensures.rows)

pub returns : goal.returns
returns c = grind (arith, common_steps, exchanged, blocks_set c.self.inside.blocks.items c.args.block c.replace_items.new.items)
