use Rattle.std.proofs.lemmas.Grind.{common_steps}
use Rattle.std.proofs.Common.{arith}
use Rattle.textarea_blocks.proofs.InBlocks.{pushed}
use Rattle.textarea_blocks.proofs.Shifting.{length-turned, not_turned}
use Rattle.textarea_blocks.proofs.blocks.numbers.Numbers.push.Goals as goal

pub returns : goal.returns
returns c = grind (arith, common_steps, not_turned, length-turned, pushed)
