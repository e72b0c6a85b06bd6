use Rattle.textarea_terminal.proofs.PaintWhole.{Wrote-end}
use Rattle.textarea_terminal.proofs.output.whole.write_end.Goals as goal

pub returns : goal.returns
returns c = Wrote-end c.args.brush c.args.known c.args.columns c.args.caret c.in_ok-write_caret.ensures c.in_ok-end_update.ensures
