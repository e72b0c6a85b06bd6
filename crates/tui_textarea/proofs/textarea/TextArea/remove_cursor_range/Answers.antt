use Rattle.std.proofs.Common.{◌≡◌, ◌∙◌, None, Some, ap}
use Rattle.textarea_document.specs.Edits.{range_at_cursor}
use Rattle.tui_textarea.specs.State.{State}
use Rattle.tui_textarea.proofs.textarea.TextArea.remove_cursor_range.Goals as goal

pub returns-in_err-remove_range-clause-nothing : goal.returns-in_err-remove_range-clause-nothing
returns-in_err-remove_range-clause-nothing c = λ none.
    let found : Some c.in-Some.range ≡ None = c.in-Some.ensures.value ∙ ap (λ (s : State). range_at_cursor s.document c.args.direction) c.self.view_is ∙ none in
    absurd cc
