use Rattle.std.proofs.Common.{◌∙◌, ◌==◌, ap, sym, arith}
use Rattle.std.proofs.lemmas.Bool.{cond-false, ne_eqb}
use Rattle.textarea_document.specs.Selection.{is_selected}
use Rattle.textarea_text.specs.Place.{Place}
use Rattle.tui_textarea.specs.Removals.{break_before_removed, yanked}
use Rattle.tui_textarea.specs.Selection.{unselected}
use Rattle.tui_textarea.specs.State.{State}
use Rattle.tui_textarea.proofs.CursorLine.{cursor_read}
use Rattle.tui_textarea.proofs.Unselected.{none_gone}
use Rattle.tui_textarea.proofs.textarea.TextArea.delete_line_by_head_unguarded.Goals as goal

pub remove_and_yank-requires-clause-ordered : goal.remove_and_yank-requires-clause-ordered
remove_and_yank-requires-clause-ordered c = omega (arith, c.if-cursor-eq0.false)

pub returns-clause-ok : goal.returns-clause-ok
returns-clause-ok c =
    let now = c.args.self.now in
    let place = c.cursor-cursor.result in
    let gone = none_gone c.self.view_is c.remove_selection.new.self c.in_ok-remove_selection.ensures.ok (sym c.in_ok-remove_selection.ensures.removed ∙ c.if-branch.false) in
    let at = cursor_read gone place c.cursor-cursor.ensures.value in
    c.in_ok-remove_and_yank.ensures.ok ∙ ap (λ (s : State). yanked s (place.0, 0) place) gone ∙ ap (λ (p : Place). yanked now (p.0, 0) p) at
    ∙ sym (cond-false (is_selected now.document) (unselected now) _
    (ap (λ (s : State). is_selected s.document) (sym c.self.view_is) ∙ sym c.in_ok-remove_selection.ensures.removed ∙ c.if-branch.false)
    ∙ cond-false (now.document.cursor.1 == 0) (break_before_removed now) _ (ap (λ (p : Place). p.1 == 0) (sym at) ∙ ne_eqb place.1 0 c.if-cursor-eq0.false))
