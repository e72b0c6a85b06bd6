use Rattle.textarea_terminal.proofs.InputSequences.{general-read}
use Rattle.textarea_terminal.proofs.input.laws.sequences_are_one_event.Goals as goal

pub returns : goal.returns
returns c = λ inner more last g. general-read inner last more g
