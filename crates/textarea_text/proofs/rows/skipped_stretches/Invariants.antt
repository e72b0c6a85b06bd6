use Rattle.std.proofs.Common.{◌≡◌, ◌+◌, ◌-◌, ◌≤◌, length, take}
use Rattle.std.specs.Fmt.{char_count}
use Rattle.textarea_text.proofs.rows.skipped_stretches.Given as goal

abbrev pub invariant-skipping : goal.invariant-skipping
invariant-skipping l =
    (l.at ≤ length l.bytes) × (char_count (take l.at l.bytes) + l.left ≡ char_count (take l.fn.known.0 l.bytes) + l.fn.known.1)

abbrev pub decreases-skipping : goal.decreases-skipping
decreases-skipping l = length l.bytes - l.at
