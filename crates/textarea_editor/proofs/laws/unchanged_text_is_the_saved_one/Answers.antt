use Rattle.textarea_editor.proofs.EventRuns.{unchanged_since}
use Rattle.textarea_editor.proofs.laws.unchanged_text_is_the_saved_one.Goals as goal

pub returns : goal.returns
returns c = unchanged_since
