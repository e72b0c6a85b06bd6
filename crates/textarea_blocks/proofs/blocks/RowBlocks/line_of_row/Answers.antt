use Rattle.std.proofs.lemmas.Grind.{common_steps}
use Rattle.std.proofs.Common.{◌≡◌, ◌+◌, ◌-◌, ◌<◌, ◌≤◌, ◌∙◌, List, [], ap, arith, get_or, length, take, ℕ}
use Rattle.textarea_blocks.specs.Prelude.{RowsView, BlocksView, all_rows, lines_before, ranges_at, rows_of_each, row_total}
use Rattle.textarea_blocks.proofs.InBlocks.{before_more, block_count, line_there, ranges_there, rows_are, rows_sum, total_before, total_in_block}
use Rattle.textarea_blocks.proofs.Totals.{located_at}
use Rattle.textarea_blocks.proofs.blocks.RowBlocks.line_of_row.Goals as goal
use Rattle.textarea_blocks.proofs.blocks.RowBlocks.line_of_row.Goals.{After-as_slice, After-at-lines_before}

-- the block of the row, its rows, and the rows before it
record RowInBlock (rows : List (List RowsView)) (block before row : ℕ) (here : List RowsView) : Type 0 where
  within : block < length rows
  here_is : here ≡ get_or rows block []
  before_is : before ≡ total_before row_total rows block
  from : before ≤ row
  to : row - before < row_total here

row_in_block : (c : After-as_slice) → RowInBlock (rows_of_each c.self.inside.blocks.items) c.last_at_most-block.result c.at-rows_before.result c.args.row c.as_slice.result.now
row_in_block c =
    let items = c.self.inside.blocks.items in
    let blocks = rows_of_each items in
    let numbers = c.self.inside.rows.numbers in
    let block = c.last_at_most-block.result in
    let inside = c.last_at_most-block.ensures.within in
    let there : c.args.row < row_total (all_rows blocks) = omega (arith, c.requires, ap (λ (v : BlocksView). row_total (all_rows v.blocks)) c.self.view_is) in
    let at = located_at row_total rows_sum blocks numbers c.args.row block c.self.invariant.rows_are inside c.last_at_most-block.ensures.from c.last_at_most-block.ensures.next there in
    let within : block < length blocks = omega (arith, inside, c.self.invariant.rows_are.len) in
    let here : c.as_slice.result.now ≡ get_or blocks block [] = c.as_slice.ensures.value ∙ rows_are items block c.index.result.now (omega (arith, within, block_count items)) c.index.ensures in
    let before : c.at-rows_before.result ≡ total_before row_total blocks block = c.at-rows_before.ensures ∙ c.self.invariant.rows_are.right block within in
    record {
      within = within;
      here_is = here;
      before_is = before;
      from = omega (arith, at.0, before);
      to = omega (arith, at.1, before, before_more row_total rows_sum blocks block within, ap row_total here);
    }

-- the line of the row, and the rows before it
record Line (rows : List (List RowsView)) (block line index : ℕ) : Type 0 where
  at : lines_before rows block + index ≡ line
  there : line < length (all_rows rows)
  up_to : row_total (take line (all_rows rows)) ≡ total_before row_total rows block + row_total (take index (get_or rows block []))
  ranges : ranges_at (all_rows rows) line ≡ ranges_at (get_or rows block []) index

line :
    (c : After-at-lines_before) (known : RowInBlock (rows_of_each c.self.inside.blocks.items) c.last_at_most-block.result c.at-rows_before.result c.args.row c.as_slice.result.now)
    → Line (rows_of_each c.self.inside.blocks.items) c.last_at_most-block.result (c.at-lines_before.result + c.row_in-index.result.0) c.row_in-index.result.0
line c known =
    let blocks = rows_of_each c.self.inside.blocks.items in
    let block = c.last_at_most-block.result in
    let index = c.row_in-index.result.0 in
    let inside : index < length (get_or blocks block []) = omega (arith, c.row_in-index.ensures.line, ap length known.here_is) in
    let number = c.at-lines_before.ensures ∙ c.self.invariant.lines_are.right block known.within in
    let at : lines_before blocks block + index ≡ c.at-lines_before.result + index = omega (arith, number) in
    record {
      at = at;
      there = omega (arith, at, line_there blocks block index known.within inside);
      up_to = total_in_block row_total rows_sum blocks block index _ known.within (omega arith) at;
      ranges = ranges_there blocks block index _ known.within inside at;
    }

pub row_in-index-requires : goal.row_in-index-requires
row_in-index-requires c = (row_in_block (goal.at.row_in-index-requires c).After-as_slice).to

pub overflow_add-result : goal.overflow_add-result
overflow_add-result c = grind (arith, common_steps, line, row_in_block)

pub returns-clause-line : goal.returns-clause-line
returns-clause-line c = grind (arith, common_steps, line, row_in_block)

pub returns-clause-row : goal.returns-clause-row
returns-clause-row c = grind (arith, common_steps, row_in_block, line)

pub returns-clause-number : goal.returns-clause-number
returns-clause-number c = grind (arith, common_steps, row_in_block, line)
