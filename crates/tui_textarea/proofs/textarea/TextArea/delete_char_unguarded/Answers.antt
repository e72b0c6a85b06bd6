use Rattle.std.proofs.Common.{◌∙◌, sym}
use Rattle.tui_textarea.specs.Removals.{has_before, symbol_before_removed}
use Rattle.tui_textarea.proofs.Unselected.{answered_unselected, then_unselected}
use Rattle.tui_textarea.proofs.textarea.TextArea.delete_char_unguarded.Goals as goal

pub returns-clause-removed : goal.returns-clause-removed
returns-clause-removed c =
    answered_unselected c.remove_before.result has_before c.self.view_is c.remove_selection.new.self
    c.in_ok-remove_selection.ensures.ok (sym c.in_ok-remove_selection.ensures.removed ∙ c.if-branch.false) c.remove_before.ensures.removed

pub returns-clause-ok : goal.returns-clause-ok
returns-clause-ok c =
    then_unselected c.remove_before.result symbol_before_removed c.self.view_is c.remove_selection.new.self c.remove_before.new.self
    c.in_ok-remove_selection.ensures.ok (sym c.in_ok-remove_selection.ensures.removed ∙ c.if-branch.false) c.remove_before.ensures.ok
