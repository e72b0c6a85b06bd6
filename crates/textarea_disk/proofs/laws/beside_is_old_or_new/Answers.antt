use Rattle.textarea_disk.proofs.Saves.{beside_points}
use Rattle.textarea_disk.proofs.laws.beside_is_old_or_new.Goals as goal

pub returns : goal.returns
returns c = beside_points
