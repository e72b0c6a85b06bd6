use Rattle.std.proofs.Common.{length, map}
use Rattle.textarea_disk.proofs.Journals.{IsReadUpTo}
use Rattle.textarea_disk.proofs.journal.records_in.Given as goal

-- what is left has the records after those of the payloads so far
abbrev pub invariant-loop-payload : goal.invariant-loop-payload
invariant-loop-payload l = IsReadUpTo (map (λ payload. payload.now) l.payloads.items) l.rest l.fn.journal

abbrev pub decreases-loop-payload : goal.decreases-loop-payload
decreases-loop-payload l = length l.rest
