use Rattle.std.proofs.Common.{◌≡◌, take}
use Rattle.std.specs.Fmt.{char_count}
use Rattle.textarea_text.proofs.rows.count_of_starts.Given as goal

abbrev pub invariant-loop-byte : goal.invariant-loop-byte
invariant-loop-byte l = l.count ≡ char_count (take l.byte-index l.bytes)
