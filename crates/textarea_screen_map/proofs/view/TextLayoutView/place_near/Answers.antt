use Rattle.std.proofs.Common.{arith}
use Rattle.std.proofs.lemmas.Grind.{common_steps}
use Rattle.textarea_screen_map.proofs.Layouts.{length-AreRowsOf}
use Rattle.textarea_screen_map.proofs.view.TextLayoutView.place_near.Goals as goal

pub near_in_line-requires-clause-line : goal.near_in_line-requires-clause-line
near_in_line-requires-clause-line c = grind (arith, common_steps, length-AreRowsOf)
