use Rattle.std.proofs.lemmas.Grind.{common_steps}
use Rattle.std.proofs.Common.{arith}
use Rattle.textarea_blocks.proofs.Shifting.{length-turned}
use Rattle.textarea_blocks.proofs.blocks.numbers.Numbers.last_at_most.Goals as goal

pub halving-init : goal.halving-init
halving-init c = grind (arith, common_steps, length-turned)
