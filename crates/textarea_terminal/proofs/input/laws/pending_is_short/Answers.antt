use Rattle.textarea_terminal.proofs.InputUnits.{pending_short}
use Rattle.textarea_terminal.proofs.input.laws.pending_is_short.Goals as goal

pub returns : goal.returns
returns c = pending_short
