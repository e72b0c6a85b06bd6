use Rattle.std.proofs.Common.{◌≡◌, ◌-◌, ◌≤◌, take}
use Rattle.textarea_wrap.proofs.wrap.kept.same_bytes.Given as goal

abbrev pub invariant-stretches : goal.invariant-stretches
invariant-stretches l = (l.same ≤ l.most) × (take l.same l.old ≡ take l.same l.new)

abbrev pub decreases-stretches : goal.decreases-stretches
decreases-stretches l = l.most - l.same

abbrev pub invariant-bytes : goal.invariant-bytes
invariant-bytes l = (l.same ≤ l.most) × (take l.same l.old ≡ take l.same l.new)

abbrev pub decreases-bytes : goal.decreases-bytes
decreases-bytes l = l.most - l.same
