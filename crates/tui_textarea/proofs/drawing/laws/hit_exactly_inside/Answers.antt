use Rattle.tui_textarea.proofs.OneHit.{some_where_visible}
use Rattle.tui_textarea.proofs.drawing.laws.hit_exactly_inside.Goals as goal

pub returns : goal.returns
returns c = some_where_visible
