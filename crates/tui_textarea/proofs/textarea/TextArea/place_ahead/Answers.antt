use Rattle.std.proofs.Common.{ap, subst}
use Rattle.textarea_text.specs.Text.{lines_of, text_of}
use Rattle.tui_textarea.specs.State.{State}
use Rattle.tui_textarea.proofs.Ahead.{IsAhead, is_ahead}
use Rattle.tui_textarea.proofs.textarea.TextArea.place_ahead.Goals as goal
use Rattle.tui_textarea.proofs.textarea.TextArea.place_ahead.Goals.{else-end_row-row-via-then-end_row-row+else-end_column-column, else-end_row-row-via-else-end_row-row}

known : (c : goal.Joined-else-end_row-row) → IsAhead c.args.self.now.document c.ahead-end_row.result c.args.count
known c =
    subst (λ d. IsAhead d c.ahead-end_row.result c.args.count) (ap (λ (s : State). s.document) c.self.view_is)
    (is_ahead c.self.inside.document (text_of c.lines.result.now) (lines_of c.lines.result.now) c.cursor-row.result c.ahead-end_row.result c.args.count
    c.lines.ensures.value c.lines.ensures.lines c.cursor-row.ensures.value c.cursor-row.ensures.place c.ahead-end_row.ensures.is_place c.ahead-end_row.ensures.index
    (elim c.else-end_row-row.branch [
      | else-end_row-row-via-then-end_row-row+else-end_column-column w ↦ (λ rows columns. w.if-end_column-column.false columns)
      | else-end_row-row-via-else-end_row-row w ↦ (λ rows columns. w.if-end_row-row.false rows)
    ]))

pub returns-else-end_row-row-clause-found : goal.returns-else-end_row-row-clause-found
returns-else-end_row-row-clause-found c = (known c).some

pub returns-else-end_row-row-clause-ordered : goal.returns-else-end_row-row-clause-ordered
returns-else-end_row-row-clause-ordered c = (known c).less
