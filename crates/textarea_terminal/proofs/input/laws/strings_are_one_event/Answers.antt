use Rattle.textarea_terminal.proofs.InputSequences.{string_bell-read, string_terminator-read}
use Rattle.textarea_terminal.proofs.input.laws.strings_are_one_event.Goals as goal

pub returns-clause-bell : goal.returns-clause-bell
returns-clause-bell c = string_bell-read

pub returns-clause-terminator : goal.returns-clause-terminator
returns-clause-terminator c = string_terminator-read
