use Rattle.std.proofs.Common.{◌≡◌, ◌+◌, ◌-◌, ◌<◌, ◌∙◌, ap, arith, length}
use Rattle.textarea_blocks.specs.Prelude.{BlocksView, rows_of_each, row_total}
use Rattle.textarea_blocks.proofs.InBlocks.{before_more, before_within, block_count, rows_are, rows_sum, total_before}
use Rattle.std.proofs.lemmas.Grind.{common_steps}
use Rattle.textarea_blocks.proofs.blocks.RowBlocks.rows_before.Goals as goal
use Rattle.textarea_blocks.proofs.blocks.RowBlocks.rows_before.Goals.{After-count_rows}

counted : (c : After-count_rows) → c.at.result + c.count_rows.result ≡ total_before row_total (rows_of_each c.self.inside.blocks.items) c.args.block
counted c =
    let blocks = rows_of_each c.self.inside.blocks.items in
    let last = c.args.block - 1 in
    let there : last < length blocks = grind (arith, common_steps) in
    grind (arith, common_steps, before_more row_total rows_sum blocks last there, c.self.invariant.rows_are.right last there, before_within row_total rows_sum blocks c.args.block, rows_are, block_count)

pub overflow_add-result : goal.overflow_add-result
overflow_add-result c =
    omega (arith, counted c, before_within row_total rows_sum (rows_of_each c.self.inside.blocks.items) c.args.block, c.self.invariant.few_rows)

pub returns : goal.returns
returns c =
    counted c ∙ ap (λ (v : BlocksView). total_before row_total v.blocks c.args.block) c.self.view_is
