use Rattle.tui_textarea.proofs.OneHit.{none_outside}
use Rattle.tui_textarea.proofs.laws.hit_exactly_inside.Goals as goal

pub returns : goal.returns
returns c = none_outside c.hit_exactly_inside.ensures
