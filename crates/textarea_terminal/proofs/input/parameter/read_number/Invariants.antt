use Rattle.std.proofs.Common.{◌≡◌, length}
use Rattle.textarea_terminal.specs.InputParameter.{number_from}
use Rattle.textarea_terminal.proofs.input.parameter.read_number.Given as goal

-- what is left makes of the number so far what all bytes make of 0
abbrev pub invariant-loop-digit : goal.invariant-loop-digit
invariant-loop-digit l = number_from l.number l.rest ≡ number_from 0 l.bytes

abbrev pub decreases-loop-digit : goal.decreases-loop-digit
decreases-loop-digit l = length l.rest
