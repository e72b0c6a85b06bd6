use Rattle.std.proofs.lemmas.Grind.{common_steps}
use Rattle.std.proofs.Common.{◌-◌, ◌≤◌, List, arith, length, ℕ}
use Rattle.textarea_blocks.specs.Prelude.{RowsView, rows_of_each, row_total}
use Rattle.textarea_blocks.proofs.InBlocks.{before_ordered, blocks_exchanged, lines_sum, rows_sum, spare_exchanged}
use Rattle.textarea_blocks.proofs.Totals.{BlocksChange, blocks_can_exchange, blocks_few, blocks_totals}
use Rattle.textarea_blocks.proofs.blocks.RowBlocks.exchange_blocks.Goals as goal
use Rattle.textarea_blocks.proofs.blocks.RowBlocks.exchange_blocks.Goals.{After-replace_items}

-- what changed
record Changes (blocks new : List (List RowsView)) (from to line line_end lines row row_end rows : ℕ) : Type 0 where
  by_lines : BlocksChange length blocks new (record { from = from; to = to; before = line; gone = line_end - line; come = lines })
  by_rows : BlocksChange row_total blocks new (record { from = from; to = to; before = row; gone = row_end - row; come = rows })

changes :
    (c : After-replace_items) → Changes (rows_of_each c.self.inside.blocks.items) (rows_of_each c.new.inside.blocks.items) c.args.from c.args.to c.lines_before-line.result
    c.lines_before.result c.line_count.result c.rows_before-row.result c.rows_before.result c.row_count.result
changes c =
    let blocks = rows_of_each c.self.inside.blocks.items in
    let from = c.args.from in
    let to = c.args.to in
    let ordered = c.requires.ordered in
    let within : to ≤ length blocks = grind (arith, common_steps) in
    let lines = before_ordered length lines_sum blocks from to ordered in
    let rows = before_ordered row_total rows_sum blocks from to ordered in
    record {
      by_lines = record { ordered = ordered; within = within; before = grind (arith, common_steps); gone = grind (arith, common_steps, lines); come = grind (arith, common_steps); few = grind (arith, common_steps) };
      by_rows = record { ordered = ordered; within = within; before = grind (arith, common_steps); gone = grind (arith, common_steps, rows); come = grind (arith, common_steps); few = grind (arith, common_steps) };
    }

pub overflow_sub-lines_exchanged : goal.overflow_sub-lines_exchanged
overflow_sub-lines_exchanged c = grind (arith, common_steps, before_ordered length lines_sum c.args.self.now.blocks c.args.from c.args.to c.requires.ordered)

pub overflow_sub-rows_exchanged : goal.overflow_sub-rows_exchanged
overflow_sub-rows_exchanged c = grind (arith, common_steps, before_ordered row_total rows_sum c.args.self.now.blocks c.args.from c.args.to c.requires.ordered)

pub exchange_both-requires : goal.exchange_both-requires
exchange_both-requires c =
    let known = changes (goal.at.exchange_both-requires c).After-replace_items in
    record {
      lines = blocks_can_exchange length lines_sum _ _ _ _ _ _ c.self.invariant.lines_are c.new.invariant.lines_are known.by_lines (grind (arith, common_steps));
      rows = blocks_can_exchange row_total rows_sum _ _ _ _ _ _ c.self.invariant.rows_are c.new.invariant.rows_are known.by_rows (grind (arith, common_steps));
    }

pub invariant_of-self : goal.invariant_of-self
invariant_of-self c =
    let known = changes (goal.at.invariant_of-self c).After-replace_items in
    rw (c.replace_items.ensures.items, blocks_exchanged c.self.inside.blocks.items c.new.inside.blocks.items c.args.from (c.args.to - c.args.from))
    (record {
      lines_are = blocks_totals length lines_sum _ _ _ _ _ _ c.self.invariant.lines_are c.new.invariant.lines_are known.by_lines c.exchange_both.ensures.lines;
      rows_are = blocks_totals row_total rows_sum _ _ _ _ _ _ c.self.invariant.rows_are c.new.invariant.rows_are known.by_rows c.exchange_both.ensures.rows;
      few_lines = blocks_few length lines_sum _ _ _ known.by_lines;
      few_rows = blocks_few row_total rows_sum _ _ _ known.by_rows;
    })

pub returns-clause-blocks : goal.returns-clause-blocks
returns-clause-blocks c = grind (arith, common_steps, blocks_exchanged)

pub returns-clause-spare : goal.returns-clause-spare
returns-clause-spare c = grind (arith, common_steps, spare_exchanged)
