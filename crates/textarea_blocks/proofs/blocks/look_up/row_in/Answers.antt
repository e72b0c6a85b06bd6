use Rattle.std.proofs.lemmas.Grind.{common_steps}
use Rattle.std.proofs.Common.{arith}
use Rattle.std.proofs.lemmas.List.{get_or-map}
use Rattle.textarea_blocks.proofs.Numbers.{line_there, row_total-more}
use Rattle.textarea_blocks.proofs.blocks.look_up.row_in.Goals as goal

pub walking-preserved : goal.walking-preserved
walking-preserved c = grind (arith, common_steps, line_there, row_total-more)

pub returns-then-left-count-clause-number : goal.returns-then-left-count-clause-number
returns-then-left-count-clause-number c = grind (arith, common_steps, line_there, get_or-map)
