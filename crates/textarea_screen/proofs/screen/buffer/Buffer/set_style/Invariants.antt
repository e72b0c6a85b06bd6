use Rattle.std.proofs.Common.{cond}
use Rattle.textarea_screen.specs.Buffer.{Changes}
use Rattle.textarea_screen.specs.Cell.{styled}
use Rattle.textarea_screen.proofs.BufferLemmas.{is_before_row}
use Rattle.textarea_screen.proofs.screen.buffer.Buffer.set_style.Given as goal

abbrev pub invariant-loop-y : goal.invariant-loop-y
invariant-loop-y l = Changes l.fn.self l.self (λ x y cell. cond (is_before_row l.area l.y x y) (styled l.style cell) cell)
