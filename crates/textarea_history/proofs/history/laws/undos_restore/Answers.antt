use Rattle.textarea_history.proofs.LogLaws.{gives_back}
use Rattle.textarea_history.proofs.history.laws.undos_restore.Goals as goal

pub returns : goal.returns
returns c = λ logged count h within. gives_back count logged h within
