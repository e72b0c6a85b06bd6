use Rattle.tui_textarea.specs.Drawing.{widget_of}
use Rattle.tui_textarea.proofs.laws.one_hit.Goals as goal

pub returns : goal.returns
returns c = λ state x y found other h k. c.one_hit.ensures (widget_of state) x y found other h k
