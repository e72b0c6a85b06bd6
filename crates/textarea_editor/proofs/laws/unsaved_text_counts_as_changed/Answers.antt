use Rattle.textarea_editor.proofs.EventRuns.{changed_since}
use Rattle.textarea_editor.proofs.laws.unsaved_text_counts_as_changed.Goals as goal

pub returns : goal.returns
returns c = changed_since
