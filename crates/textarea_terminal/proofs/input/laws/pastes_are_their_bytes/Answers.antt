use Rattle.std.proofs.Common.{◌++◌}
use Rattle.textarea_terminal.specs.InputEvent.{paste}
use Rattle.textarea_terminal.specs.InputUnit.{paste_start, paste_end}
use Rattle.textarea_terminal.specs.InputRow.{paste_row}
use Rattle.textarea_terminal.proofs.InputReplies.{refined-unasked, stripped-without, few_replies}
use Rattle.textarea_terminal.proofs.InputRows.{written-read_before}
use Rattle.textarea_terminal.proofs.input.laws.pastes_are_their_bytes.Goals as goal

pub returns-clause-whole : goal.returns-clause-whole
returns-clause-whole c = λ text more none. written-read_before (paste_start ++ text ++ paste_end) (paste text) more (paste_row text none)

pub returns-clause-unasked : goal.returns-clause-unasked
returns-clause-unasked c = refined-unasked

pub returns-clause-asked : goal.returns-clause-asked
returns-clause-asked c = stripped-without

pub returns-clause-few : goal.returns-clause-few
returns-clause-few c = few_replies
