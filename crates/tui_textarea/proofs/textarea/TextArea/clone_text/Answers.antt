use Rattle.std.proofs.Common.{◌∙◌, Global, String, Vec, ap}
use Rattle.textarea_text.specs.Text.{text_of}
use Rattle.tui_textarea.specs.State.{State}
use Rattle.tui_textarea.proofs.textarea.TextArea.clone_text.Goals as goal

pub returns-clause-yank : goal.returns-clause-yank
returns-clause-yank c =
    ap (λ (v : Vec (String Global) Global). text_of v.items) c.in_ok-yank.ensures.cases ∙ ap (λ (s : State). s.yank) c.self.view_is
