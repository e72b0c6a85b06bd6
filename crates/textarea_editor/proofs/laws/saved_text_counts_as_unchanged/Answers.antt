use Rattle.textarea_editor.proofs.EventRuns.{saved_since}
use Rattle.textarea_editor.proofs.laws.saved_text_counts_as_unchanged.Goals as goal

pub returns : goal.returns
returns c = saved_since
