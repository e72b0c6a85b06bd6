use Rattle.tui_textarea.proofs.FragmentTexts.{has_pasted_text_is}
use Rattle.tui_textarea.proofs.textarea.edits.has_pasted_text.Goals as goal

pub returns : goal.returns
returns c = has_pasted_text_is c.args.text.now c.is_empty.result c.utf8.text c.is_empty.ensures
