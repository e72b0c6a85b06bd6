use Rattle.std.proofs.Common.{◌∙◌, refl, sym}
use Rattle.std.proofs.lemmas.Bool.{false≢true}
use Rattle.textarea_data.specs.declared.range.AtomicDeleteDirection.TheVariants.{Forward}
use Rattle.textarea_document.specs.Edits.{range_at_cursor}
use Rattle.tui_textarea.specs.Removals.{has_line_after, on_to_word_end_removed}
use Rattle.tui_textarea.proofs.Unselected.{answered_unhit, none_at_place, other_gone, range_gone, range_removes}
use Rattle.tui_textarea.proofs.textarea.TextArea.delete_next_word_unguarded.Goals as goal

pub returns-then-hit-clause-removed : goal.returns-then-hit-clause-removed
returns-then-hit-clause-removed c =
    range_removes c.self.view_is c.remove_selection.new.self c.in_ok-remove_selection.ensures.ok (sym c.in_ok-remove_selection.ensures.removed ∙ c.if-branch.false) Forward
    (range_at_cursor c.remove_selection.new.self Forward) (has_line_after c.args.self.now) refl (sym c.in_ok-hit.ensures.removed ∙ c.if-hit.true)

pub returns-then-hit-clause-ok : goal.returns-then-hit-clause-ok
returns-then-hit-clause-ok c =
    range_gone on_to_word_end_removed Forward c.self.view_is c.remove_selection.new.self c.remove_cursor_range.new.self c.in_ok-remove_selection.ensures.ok
    (sym c.in_ok-remove_selection.ensures.removed ∙ c.if-branch.false) (sym c.in_ok-hit.ensures.removed ∙ c.if-hit.true) c.in_ok-hit.ensures.ok

pub returns-in_err-hit-clause-nothing : goal.returns-in_err-hit-clause-nothing
returns-in_err-hit-clause-nothing c = λ stays.
    absurd (false≢true (c.in_err-hit.ensures.nothing
    (none_at_place c.self.view_is c.remove_selection.new.self c.in_ok-remove_selection.ensures.ok (sym c.in_ok-remove_selection.ensures.removed ∙ c.if-branch.false) Forward
    (has_line_after c.args.self.now) stays)))

pub returns-clause-removed : goal.returns-clause-removed
returns-clause-removed c =
    answered_unhit c.remove_to_word_end.result has_line_after Forward c.self.view_is c.remove_selection.new.self c.remove_cursor_range.new.self c.in_ok-remove_selection.ensures.ok
    (sym c.in_ok-remove_selection.ensures.removed ∙ c.if-branch.false) (sym c.in_ok-hit.ensures.removed ∙ c.if-hit.false) c.in_ok-hit.ensures.ok
    c.remove_to_word_end.ensures.removed

pub returns-clause-ok : goal.returns-clause-ok
returns-clause-ok c =
    other_gone c.remove_to_word_end.result on_to_word_end_removed Forward c.self.view_is c.remove_selection.new.self c.remove_cursor_range.new.self c.remove_to_word_end.new.self
    c.in_ok-remove_selection.ensures.ok (sym c.in_ok-remove_selection.ensures.removed ∙ c.if-branch.false) (sym c.in_ok-hit.ensures.removed ∙ c.if-hit.false) c.in_ok-hit.ensures.ok
    c.remove_to_word_end.ensures.ok
