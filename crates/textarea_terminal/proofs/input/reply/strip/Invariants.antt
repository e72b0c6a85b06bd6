use Rattle.std.proofs.Common.{◌≡◌, length}
use Rattle.textarea_terminal.specs.InputReply.{stripped, with_stripped}
use Rattle.textarea_terminal.proofs.input.reply.strip.Given as goal

-- what is made so far and of what is left is what is made of all
abbrev pub invariant-loop-first : goal.invariant-loop-first
invariant-loop-first l = with_stripped l.parts (stripped l.parts.expected l.rest) ≡ stripped l.fn.expected l.bytes

abbrev pub decreases-loop-first : goal.decreases-loop-first
decreases-loop-first l = length l.rest
