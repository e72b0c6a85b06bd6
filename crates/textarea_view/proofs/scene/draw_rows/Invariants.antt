use Rattle.std.proofs.Common.{◌≡◌}
use Rattle.textarea_view.specs.Prelude.{DrawnTo, searched_lines}
use Rattle.textarea_view.proofs.scene.draw_rows.Given as goal

abbrev pub invariant-loop-i : goal.invariant-loop-i
invariant-loop-i l = (l.matches.searched ≡ searched_lines l.context) × DrawnTo l.context l.top l.rows l.fn.buffer l.buffer l.i
