use Rattle.textarea_terminal.specs.PenControls.{pen_controls}
use Rattle.textarea_terminal.proofs.PenRuns.{takes-look}
use Rattle.textarea_terminal.proofs.output.brush.change_look.Goals as goal

pub returns-clause-wrote : goal.returns-clause-wrote
returns-clause-wrote c = record {
  controls = pen_controls c.args.look;
  bytes = c.in_ok-write_pen.ensures;
  with_ranges = takes-look c.args.pen.now c.args.look c.requires.modifier c.requires.other;
}
