use Rattle.textarea_terminal.proofs.InputUnits.{unit_at-consumed}
use Rattle.textarea_terminal.proofs.InputStreams.{rest_of-ends, rest_of-begun}
use Rattle.textarea_terminal.proofs.input.laws.no_byte_is_lost.Goals as goal

pub returns-clause-units : goal.returns-clause-units
returns-clause-units c = unit_at-consumed

pub returns-clause-rest : goal.returns-clause-rest
returns-clause-rest c = λ bytes. (rest_of-ends bytes, rest_of-begun bytes)
