use Rattle.std.proofs.Common.{sym, subst}
use Rattle.std.proofs.lemmas.Result.{on_ok_weaker}
use Rattle.textarea_view.specs.Prelude.{CursorCellRender, row_cell, Changes, line_view, after_cursor}
use Rattle.textarea_view.proofs.Placeholder.{drawn_after}
use Rattle.textarea_view.proofs.scene.placeholder.draw_line.Goals as goal

pub returns-in_ok-displayed-in-Draw-clause-ok : goal.returns-in_ok-displayed-in-Draw-clause-ok
returns-in_ok-displayed-in-Draw-clause-ok c =
    let line = line_view c.args.line.now in
    on_ok_weaker c.draw_row.result
    (λ change.
    subst (λ (cell : CursorCellRender). Changes c.args.buffer.now c.draw_row.new.buffer (row_cell c.args.rows c.args.y (after_cursor cell line))) (sym c.in-Draw.is)
    (drawn_after c.args.rows c.args.y c.in-Draw.style line (line_view c.in_ok-displayed-in-Draw.displayed) c.args.buffer.now c.draw_row.new.buffer c.in_ok-displayed-in-Draw.ensures change))
    c.draw_row.ensures.ok
