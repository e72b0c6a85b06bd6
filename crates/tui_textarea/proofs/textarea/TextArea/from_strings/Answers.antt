use Rattle.std.proofs.Common.{◌∙◌, ap}
use Rattle.std.proofs.lemmas.Result.{IfOk-weaker}
use Rattle.textarea_text.specs.Text.{text_of}
use Rattle.tui_textarea.specs.State.{new_state}
use Rattle.tui_textarea.proofs.textarea.TextArea.from_strings.Goals as goal

pub returns : goal.returns
returns c c' =
    let ranges_set = c'.in_ok-all.ensures in
    IfOk-weaker c'.new.result _ _ (λ area is. (ranges_set.0, ranges_set.1, is ∙ ap (λ strings. new_state (text_of strings)) ranges_set.2)) c'.new.ensures
