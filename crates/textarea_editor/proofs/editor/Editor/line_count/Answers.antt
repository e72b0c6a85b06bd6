use Rattle.std.proofs.Common.{◌≡◌, ◌∙◌, ap, arith, length, sym}
use Rattle.std.proofs.lemmas.List.{length-map}
use Rattle.textarea_editor.proofs.editor.Editor.line_count.Goals as goal
use Rattle.textarea_text.specs.Text.{characters_of, lines}
use Rattle.tui_textarea.specs.State.{State}

pub returns : goal.returns
returns c =
    let count : length c.lines.result.now ≡ length (lines c.args.self.now.draft.area.document.text) =
    sym (length-map c.lines.result.now characters_of) ∙ ap length c.lines.ensures.lines ∙ ap (λ (state : State). length (lines state.document.text)) c.area.ensures in
    omega (arith, count)
