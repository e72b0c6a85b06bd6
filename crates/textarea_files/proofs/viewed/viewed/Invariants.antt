use Rattle.std.proofs.Common.{length, string_bytes}
use Rattle.textarea_files.specs.Viewed.{ShowsBefore}
use Rattle.textarea_files.proofs.viewed.viewed.Given as goal

-- what shows the bytes that are left completes the text to one that shows all
abbrev pub invariant-loop-rest : goal.invariant-loop-rest
invariant-loop-rest l = ShowsBefore l.fn.bytes l.rest (string_bytes l.text)

abbrev pub decreases-loop-rest : goal.decreases-loop-rest
decreases-loop-rest l = length l.rest
