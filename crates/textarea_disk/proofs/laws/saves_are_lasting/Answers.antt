use Rattle.textarea_disk.proofs.Saves.{lasting}
use Rattle.textarea_disk.proofs.laws.saves_are_lasting.Goals as goal

pub returns : goal.returns
returns c = lasting
