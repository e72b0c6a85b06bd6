use Rattle.textarea_view.proofs.OneFilling.{filled_once}
use Rattle.textarea_view.proofs.scene.laws.one_filling.Goals as goal

pub returns : goal.returns
returns c = filled_once c.one_line_shows_a_row.ensures
