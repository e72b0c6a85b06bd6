use Rattle.std.proofs.Common.{Some}
use Rattle.textarea_terminal.specs.Paint.{PutsCaret}
use Rattle.textarea_terminal.proofs.ControlLemmas.{Wrote-then}
use Rattle.textarea_terminal.proofs.PaintWhole.{puts-caret}
use Rattle.textarea_terminal.proofs.output.whole.write_caret.Goals as goal

pub returns-in_ok-set_cursor-in-Some : goal.returns-in_ok-set_cursor-in-Some
returns-in_ok-set_cursor-in-Some c =
    rw c.in-Some.is
    (Wrote-then (PutsCaret c.args.at c.args.known c.args.columns (Some c.in-Some.index)) (rw c.new.ensures.index at c.in_ok-move_to-in-Some.ensures) c.in_ok-set_cursor-in-Some.ensures
    (λ xs ys moves sets. puts-caret c.args.at c.args.known c.args.columns c.in-Some.index xs ys moves sets))
