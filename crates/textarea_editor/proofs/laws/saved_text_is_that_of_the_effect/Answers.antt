use Rattle.textarea_editor.proofs.EventRuns.{saved_as_asked}
use Rattle.textarea_editor.proofs.laws.saved_text_is_that_of_the_effect.Goals as goal

pub returns : goal.returns
returns c = saved_as_asked
