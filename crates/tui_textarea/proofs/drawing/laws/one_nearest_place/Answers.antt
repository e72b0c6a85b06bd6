use Rattle.tui_textarea.proofs.OneInside.{inside_once}
use Rattle.tui_textarea.proofs.drawing.laws.one_nearest_place.Goals as goal

pub returns : goal.returns
returns c = inside_once c.one_view.ensures c.one_visual_position.ensures.visual c.one_place.ensures
