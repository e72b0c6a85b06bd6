use Rattle.textarea_history.proofs.LogLaws.{redo_restores}
use Rattle.textarea_history.proofs.history.laws.redo_restores.Goals as goal

pub returns : goal.returns
returns c = redo_restores
