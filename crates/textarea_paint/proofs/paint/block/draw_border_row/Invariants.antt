use Rattle.std.proofs.Common.{cond}
use Rattle.textarea_screen.specs.Buffer.{Changes, is_between}
use Rattle.textarea_screen.specs.Cell.{with_symbol}
use Rattle.textarea_paint.proofs.paint.block.draw_border_row.Given as goal

abbrev pub invariant-loop-x : goal.invariant-loop-x
invariant-loop-x l = Changes l.fn.buffer l.buffer (λ x y cell. cond (is_between l.row l.fn.area.x l.x x y) (with_symbol l.text l.style cell) cell)
