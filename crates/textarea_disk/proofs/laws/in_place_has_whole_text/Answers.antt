use Rattle.textarea_disk.proofs.Saves.{in_place_points}
use Rattle.textarea_disk.proofs.laws.in_place_has_whole_text.Goals as goal

pub returns : goal.returns
returns c = in_place_points
