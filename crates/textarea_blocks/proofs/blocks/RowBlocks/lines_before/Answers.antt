use Rattle.std.proofs.Common.{◌≡◌, ◌+◌, ◌-◌, ◌<◌, ◌∙◌, ap, arith, length}
use Rattle.textarea_blocks.specs.Blocks.{BlocksView, lines_before, rows_of_each}
use Rattle.textarea_blocks.proofs.InBlocks.{before_more, before_within, block_count, lines_sum, rows_are}
use Rattle.std.proofs.lemmas.Grind.{common_steps}
use Rattle.textarea_blocks.proofs.blocks.RowBlocks.lines_before.Goals as goal
use Rattle.textarea_blocks.proofs.blocks.RowBlocks.lines_before.Goals.{After-len}

counted : (c : After-len) → c.at.result + c.len.result ≡ lines_before (rows_of_each c.self.inside.blocks.items) c.args.block
counted c =
    let blocks = rows_of_each c.self.inside.blocks.items in
    let last = c.args.block - 1 in
    let there : last < length blocks = grind (arith, common_steps) in
    grind (arith, common_steps, before_more length lines_sum blocks last there, c.self.invariant.lines_are.right last there, rows_are, block_count)

pub overflow_add-result : goal.overflow_add-result
overflow_add-result c =
    omega (arith, counted c, before_within length lines_sum (rows_of_each c.self.inside.blocks.items) c.args.block, c.self.invariant.few_lines)

pub returns : goal.returns
returns c =
    counted c ∙ ap (λ (v : BlocksView). lines_before v.blocks c.args.block) c.self.view_is
