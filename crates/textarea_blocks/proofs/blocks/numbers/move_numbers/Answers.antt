use Rattle.std.proofs.Common.{arith}
use Rattle.std.proofs.lemmas.Grind.{common_steps}
use Rattle.textarea_blocks.proofs.Shifting.{settled}
use Rattle.textarea_blocks.proofs.blocks.numbers.move_numbers.Goals as goal

pub returns-clause-items : goal.returns-clause-items
returns-clause-items c = grind (arith, common_steps, settled)
