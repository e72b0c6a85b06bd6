use Rattle.std.proofs.Common.{◌≡◌, ◌-◌, ◌≤◌, take}
use Rattle.textarea_disk.proofs.text_change.common_start.Given as goal

-- so far both begin with the same bytes
abbrev pub invariant-same : goal.invariant-same
invariant-same l = (l.count ≤ l.most) × (take l.count l.old ≡ take l.count l.new)

abbrev pub decreases-same : goal.decreases-same
decreases-same l = l.most - l.count
