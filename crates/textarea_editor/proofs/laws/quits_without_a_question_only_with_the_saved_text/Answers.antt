use Rattle.textarea_editor.proofs.EventRuns.{quits_after}
use Rattle.textarea_editor.proofs.laws.quits_without_a_question_only_with_the_saved_text.Goals as goal

pub returns : goal.returns
returns c = quits_after
