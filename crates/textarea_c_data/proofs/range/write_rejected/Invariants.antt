use Rattle.std.proofs.Common.{◌≡◌, drop, map}
use Rattle.textarea_c_data.specs.Copied.{copied_over, written_at}
use Rattle.textarea_c_data.specs.Ranges.{plain_rejected}
use Rattle.textarea_c_data.proofs.range.write_rejected.Given as goal

-- what is left to write leads to the same slice
abbrev pub invariant-loop-index : goal.invariant-loop-index
invariant-loop-index l = written_at l.index l.out (map plain_rejected (drop l.index l.rejected)) ≡ copied_over l.initial.out (map plain_rejected l.rejected)
