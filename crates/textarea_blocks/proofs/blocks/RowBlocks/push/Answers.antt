use Rattle.std.proofs.Common.{arith}
use Rattle.std.proofs.lemmas.Grind.{common_steps}
use Rattle.textarea_blocks.proofs.InBlocks.{block_pushed, blocks_pushed, lines_sum, pushed, rows_sum}
use Rattle.textarea_blocks.proofs.Totals.{totals_pushed}
use Rattle.textarea_blocks.proofs.blocks.RowBlocks.push.Goals as goal

pub invariant_of-self : goal.invariant_of-self
invariant_of-self c =
    grind (arith, common_steps, blocks_pushed, pushed, block_pushed, totals_pushed, lines_sum, rows_sum)
