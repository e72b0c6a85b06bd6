use Rattle.std.proofs.Common.{◌∙◌, ap}
use Rattle.std.proofs.lemmas.Result.{IfOk-weaker}
use Rattle.textarea_text.specs.Text.{text_of}
use Rattle.tui_textarea.specs.State.{new_state}
use Rattle.tui_textarea.proofs.textarea.TextArea.try_default.Goals as goal

pub returns : goal.returns
returns c = IfOk-weaker c.new.result _ _ (λ area is. is ∙ ap (λ items. new_state (text_of items)) c.new-lines.ensures.items) c.new.ensures
