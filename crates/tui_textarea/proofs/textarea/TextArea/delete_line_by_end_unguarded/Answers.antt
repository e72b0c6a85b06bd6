use Rattle.std.proofs.Common.{◌∙◌, sym}
use Rattle.std.proofs.lemmas.Bool.{true≢false}
use Rattle.textarea_text.specs.Text.{lines_of}
use Rattle.tui_textarea.proofs.CursorLine.{answered_at_end, end_after, line_removes_unselected}
use Rattle.tui_textarea.proofs.Unselected.{selected_gone}
use Rattle.tui_textarea.proofs.textarea.TextArea.delete_line_by_end_unguarded.Goals as goal

pub returns-then-branch-clause-ok : goal.returns-then-branch-clause-ok
returns-then-branch-clause-ok c =
    selected_gone c.self.view_is c.remove_selection.new.self c.in_ok-remove_selection.ensures.ok (sym c.in_ok-remove_selection.ensures.removed ∙ c.if-branch.true) _

pub returns-then-cursor-end-clause-removed : goal.returns-then-cursor-end-clause-removed
returns-then-cursor-end-clause-removed c =
    answered_at_end c.remove_after.result c.self.view_is c.remove_selection.new.self c.in_ok-remove_selection.ensures.ok
    (sym c.in_ok-remove_selection.ensures.removed ∙ c.if-branch.false) (lines_of c.lines.result.now) c.cursor-cursor.result c.line_end-end.result
    c.lines.ensures.lines c.cursor-cursor.ensures.value c.line_end-end.ensures.value
    c.if-cursor-end.true c.remove_after.ensures.removed

pub remove_and_yank-requires-clause-ordered : goal.remove_and_yank-requires-clause-ordered
remove_and_yank-requires-clause-ordered c =
    end_after c.remove_selection.new.self.text (lines_of c.lines.result.now) c.cursor-cursor.result c.line_end-end.result c.lines.ensures.lines
    c.cursor-cursor.ensures.place c.line_end-end.ensures.value c.if-cursor-end.false

pub returns-in_err-remove_and_yank-clause-nothing : goal.returns-in_err-remove_and_yank-clause-nothing
returns-in_err-remove_and_yank-clause-nothing c = λ stays.
    absurd (true≢false (line_removes_unselected c.self.view_is c.remove_selection.new.self c.in_ok-remove_selection.ensures.ok
    (sym c.in_ok-remove_selection.ensures.removed ∙ c.if-branch.false) (lines_of c.lines.result.now) c.cursor-cursor.result c.line_end-end.result
    c.lines.ensures.lines c.cursor-cursor.ensures.value c.line_end-end.ensures.value
    c.if-cursor-end.false ∙ stays))

pub returns-clause-removed : goal.returns-clause-removed
returns-clause-removed c =
    line_removes_unselected c.self.view_is c.remove_selection.new.self c.in_ok-remove_selection.ensures.ok
    (sym c.in_ok-remove_selection.ensures.removed ∙ c.if-branch.false) (lines_of c.lines.result.now) c.cursor-cursor.result c.line_end-end.result
    c.lines.ensures.lines c.cursor-cursor.ensures.value c.line_end-end.ensures.value
    c.if-cursor-end.false
