use Rattle.std.proofs.Common.{cond}
use Rattle.textarea_screen.specs.Buffer.{Changes}
use Rattle.textarea_screen.specs.Cell.{with_symbol}
use Rattle.textarea_screen.proofs.BufferLemmas.{is_before_row}
use Rattle.textarea_paint.proofs.paint.block.draw_border.Given as goal

abbrev pub invariant-loop-y : goal.invariant-loop-y
invariant-loop-y l = Changes l.fn.buffer l.buffer (λ x y cell. cond (is_before_row l.area l.y x y) (with_symbol l.text l.style cell) cell)
