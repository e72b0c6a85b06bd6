use Rattle.std.proofs.Common.{map, take}
use Rattle.textarea_view.specs.Prelude.{Changes, line_view, lines_change, in_placeholder_style, placeholder_lines}
use Rattle.textarea_view.proofs.scene.placeholder.draw_placeholder.Given as goal

abbrev pub invariant-loop-i : goal.invariant-loop-i
invariant-loop-i l =
    Changes l.fn.buffer l.buffer
    (lines_change (in_placeholder_style l.fn.rows l.fn.placeholder.style) l.fn.rows.area.y (take l.i (placeholder_lines l.fn.cursor_cell (map line_view l.fn.placeholder.lines.items))))
