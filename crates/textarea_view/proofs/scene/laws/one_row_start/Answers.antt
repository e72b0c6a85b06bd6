use Rattle.textarea_view.proofs.OneFilling.{starts_once}
use Rattle.textarea_view.proofs.scene.laws.one_row_start.Goals as goal

pub returns : goal.returns
returns c = starts_once c.one_line_shows_a_row.ensures
