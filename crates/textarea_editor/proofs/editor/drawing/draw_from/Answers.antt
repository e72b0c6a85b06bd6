use Rattle.std.proofs.Common.{◌≤◌, arith}
use Rattle.std.proofs.lemmas.Result.{on_ok_weaker}
use Rattle.std.specs.Prelude.{string_bytes}
use Rattle.textarea_editor.proofs.StatusRows.{row_keeps_before, spelled_now}
use Rattle.textarea_editor.proofs.editor.drawing.draw_from.Goals as goal
use Rattle.textarea_editor.specs.StatusRow.{at_left, line_of_words}

pub returns-clause-keeps : goal.returns-clause-keeps
returns-clause-keeps c =
    let area = c.new-area.result in
    let begins : c.args.column ≤ area.x = omega (arith, c.new-area.ensures.x) in
    on_ok_weaker c.draw_part.result
    (λ drawn. row_keeps_before (at_left area) area.y c.args.column (line_of_words (string_bytes c.args.text)) _ _ begins drawn)
    c.draw_part.ensures

pub returns-clause-drawn : goal.returns-clause-drawn
returns-clause-drawn c =
    let area = c.new-area.result in
    on_ok_weaker c.draw_part.result
    (λ drawn. record {
      area = area;
      part = record {
        column_is = c.new-area.ensures.x;
        row_is = c.new-area.ensures.y;
        width = omega (arith, c.new-area.ensures.width, c.saturating_sub.ensures, c.args.row.right);
        height = omega (arith, c.new-area.ensures.height, c.args.row.bottom);
      };
      spelled = spelled_now (string_bytes c.args.text) c.args.column c.args.row.width area _ _ drawn;
    })
    c.draw_part.ensures
