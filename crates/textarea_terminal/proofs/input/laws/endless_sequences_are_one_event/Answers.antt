use Rattle.textarea_terminal.proofs.InputSequences.{endless-read}
use Rattle.textarea_terminal.proofs.input.laws.endless_sequences_are_one_event.Goals as goal

pub returns : goal.returns
returns c = endless-read
