use Rattle.std.proofs.Common.{◌≡◌, ◌+◌, take}
use Rattle.std.specs.Fmt.{char_count}
use Rattle.textarea_text.proofs.rows.start_after.Given as goal

abbrev pub invariant-loop-index : goal.invariant-loop-index
invariant-loop-index l = char_count (take l.index l.bytes) + l.left ≡ l.count
