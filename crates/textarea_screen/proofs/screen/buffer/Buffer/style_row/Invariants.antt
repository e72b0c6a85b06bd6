use Rattle.textarea_screen.specs.Buffer.{Changes}
use Rattle.textarea_screen.specs.Cell.{styled}
use Rattle.textarea_screen.proofs.BufferLemmas.{change_between}
use Rattle.textarea_screen.proofs.screen.buffer.Buffer.style_row.Given as goal

abbrev pub invariant-loop-x : goal.invariant-loop-x
invariant-loop-x l = Changes l.fn.self l.self (change_between l.row l.fn.area.x l.x (λ u. styled l.style))
