use Rattle.tui_textarea.proofs.OneDrawing.{drawn_once}
use Rattle.tui_textarea.proofs.drawing.laws.one_drawing.Goals as goal

pub returns : goal.returns
returns c = drawn_once c.one_view.ensures c.one_filling.ensures
