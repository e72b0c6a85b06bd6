use Rattle.std.proofs.Common.{◌∙◌, ap, String, Global}
use Rattle.std.proofs.lemmas.Result.{IfOk-weaker}
use Rattle.textarea_text.specs.Text.{joined}
use Rattle.textarea_text.specs.Fragment.{fragment_text}
use Rattle.textarea_text.proofs.TextPlaces.{joined-lines}
use Rattle.tui_textarea.proofs.textarea.TextArea.text.Goals as goal

pub returns : goal.returns
returns c =
    IfOk-weaker c.join_with_line_feeds.result _ _
    (λ (text : String Global) joins. joins ∙ ap fragment_text (ap joined c.lines.ensures.lines ∙ joined-lines c.args.self.now.document.text)) c.join_with_line_feeds.ensures
