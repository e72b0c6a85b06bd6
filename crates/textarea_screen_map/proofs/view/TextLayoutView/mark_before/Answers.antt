use Rattle.std.proofs.lemmas.Grind.{common_steps}
use Rattle.std.proofs.Common.{arith}
use Rattle.textarea_screen_map.proofs.Layouts.{length-AreRowsOf}
use Rattle.textarea_screen_map.proofs.view.TextLayoutView.mark_before.Goals as goal

pub mark_in-requires-clause-line : goal.mark_in-requires-clause-line
mark_in-requires-clause-line c = grind (arith, common_steps, length-AreRowsOf)
