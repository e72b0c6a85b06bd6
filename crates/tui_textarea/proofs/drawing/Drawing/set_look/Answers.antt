use Rattle.std.proofs.Common.{ap}
use Rattle.tui_textarea.specs.DrawingState.{DrawingState, with_look}
use Rattle.tui_textarea.proofs.drawing.Drawing.set_look.Goals as goal

pub returns : goal.returns
returns c = ap (λ (d : DrawingState). with_look d c.args.look) c.self.view_is
