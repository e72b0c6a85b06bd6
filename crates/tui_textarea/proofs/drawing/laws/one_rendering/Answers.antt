use Rattle.tui_textarea.proofs.OneRendering.{rendered_once}
use Rattle.tui_textarea.proofs.drawing.laws.one_rendering.Goals as goal

pub returns : goal.returns
returns c = rendered_once c.one_view.ensures c.one_visual_position.ensures.visual c.one_row_start.ensures
