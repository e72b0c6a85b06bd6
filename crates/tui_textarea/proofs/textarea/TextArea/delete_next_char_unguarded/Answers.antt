use Rattle.std.proofs.Common.{◌∙◌, sym}
use Rattle.tui_textarea.specs.Removals.{has_after, symbol_after_removed}
use Rattle.tui_textarea.proofs.Unselected.{answered_unselected, then_unselected}
use Rattle.tui_textarea.proofs.textarea.TextArea.delete_next_char_unguarded.Goals as goal

pub returns-clause-removed : goal.returns-clause-removed
returns-clause-removed c =
    answered_unselected c.remove_after.result has_after c.self.view_is c.remove_selection.new.self
    c.in_ok-remove_selection.ensures.ok (sym c.in_ok-remove_selection.ensures.removed ∙ c.if-branch.false) c.remove_after.ensures.removed

pub returns-clause-ok : goal.returns-clause-ok
returns-clause-ok c =
    then_unselected c.remove_after.result symbol_after_removed c.self.view_is c.remove_selection.new.self c.remove_after.new.self
    c.in_ok-remove_selection.ensures.ok (sym c.in_ok-remove_selection.ensures.removed ∙ c.if-branch.false) c.remove_after.ensures.ok
