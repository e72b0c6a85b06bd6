use Rattle.textarea_terminal.proofs.InputRows.{rows-read}
use Rattle.textarea_terminal.proofs.input.laws.rows_are_read.Goals as goal

pub returns : goal.returns
returns c = rows-read
