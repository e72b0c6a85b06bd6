use Rattle.std.proofs.lemmas.Grind.{common_steps}
use Rattle.std.proofs.Common.{◌<◌, arith, length}
use Rattle.textarea_blocks.specs.Blocks.{rows_of_each}
use Rattle.textarea_blocks.proofs.InBlocks.{before_more, lines_sum}
use Rattle.textarea_blocks.proofs.blocks.RowBlocks.place_of.Goals as goal

pub returns-clause-within : goal.returns-clause-within
returns-clause-within c =
    let blocks = rows_of_each c.self.inside.blocks.items in
    let block = c.last_at_most-block.result in
    let within : block < length blocks = omega (arith, c.last_at_most-block.ensures.within, c.self.invariant.lines_are.len) in
    grind (arith, common_steps, before_more length lines_sum blocks block within)
