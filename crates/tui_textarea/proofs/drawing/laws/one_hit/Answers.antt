use Rattle.tui_textarea.proofs.OneHit.{hit_once}
use Rattle.tui_textarea.proofs.drawing.laws.one_hit.Goals as goal

pub returns : goal.returns
returns c = hit_once c.one_view.ensures c.one_place.ensures c.one_row_start.ensures
