use Rattle.std.proofs.Common.{sym, arith}
use Rattle.textarea_terminal.proofs.PaintSpots.{cursor-at-end, cursor-inside}
use Rattle.textarea_terminal.proofs.output.brush.cursor_after.Goals as goal

pub returns-then-spot-width : goal.returns-then-spot-width
returns-then-spot-width c = sym (cursor-at-end c.args.columns c.args.spot c.args.width c.requires.width.0 c.requires.spot c.if-spot-width.true)

pub returns-else-spot-width : goal.returns-else-spot-width
returns-else-spot-width c = sym (cursor-inside c.args.columns c.args.spot c.args.width c.requires.width.0 c.requires.spot (omega arith))
