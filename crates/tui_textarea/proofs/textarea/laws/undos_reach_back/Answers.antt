use Rattle.std.proofs.Common.{subst}
use Rattle.tui_textarea.specs.TextsBefore.{StepsBack}
use Rattle.tui_textarea.proofs.UndoneTexts.{steps_back}
use Rattle.tui_textarea.proofs.textarea.laws.undos_reach_back.Goals as goal

pub returns : goal.returns
returns c = subst StepsBack c.area.view_is (steps_back _ c.undos_restore.ensures)
