use Rattle.std.proofs.Common.{◌≡◌, ◌-◌, ◌≤◌, drop, length}
use Rattle.textarea_disk.proofs.text_change.common_end.Given as goal

-- so far both end with the same bytes
abbrev pub invariant-same : goal.invariant-same
invariant-same l = (l.count ≤ l.most) × (drop (length l.old - l.count) l.old ≡ drop (length l.new - l.count) l.new)

abbrev pub decreases-same : goal.decreases-same
decreases-same l = l.most - l.count
