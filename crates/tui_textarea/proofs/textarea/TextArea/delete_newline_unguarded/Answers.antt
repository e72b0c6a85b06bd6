use Rattle.std.proofs.Common.{◌∙◌, sym}
use Rattle.textarea_document.specs.Edits.{break_removed}
use Rattle.tui_textarea.specs.Removals.{has_break_before}
use Rattle.tui_textarea.specs.State.{State}
use Rattle.tui_textarea.proofs.Unselected.{answered_unselected, made_unselected}
use Rattle.tui_textarea.proofs.textarea.TextArea.delete_newline_unguarded.Goals as goal

pub returns-clause-removed : goal.returns-clause-removed
returns-clause-removed c =
    answered_unselected c.remove_break.result has_break_before c.self.view_is c.remove_selection.new.self
    c.in_ok-remove_selection.ensures.ok (sym c.in_ok-remove_selection.ensures.removed ∙ c.if-branch.false) c.remove_break.ensures.removed

pub returns-clause-ok : goal.returns-clause-ok
returns-clause-ok c =
    made_unselected c.remove_break.result (λ (s : State). break_removed s.document s.time) c.self.view_is c.remove_selection.new.self
    c.remove_break.new.self c.in_ok-remove_selection.ensures.ok (sym c.in_ok-remove_selection.ensures.removed ∙ c.if-branch.false) c.remove_break.ensures.ok
