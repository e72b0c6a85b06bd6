use Rattle.textarea_terminal.proofs.PartedBytes.{blanks-more}
use Rattle.textarea_terminal.proofs.output.brush.write_blanks.Goals as goal

pub loop-preserved : goal.loop-preserved
loop-preserved c = blanks-more _ _ _ c.loop.counter c.loop.invariant c.in_ok-push.ensures.items
