use Rattle.std.proofs.Common.{◌-◌, ◌≤◌, take}
use Rattle.textarea_wrap.specs.Prelude.{AllByRecursion, IsVisible}
use Rattle.textarea_wrap.proofs.wrap.columns.visible_stretches.Given as goal

abbrev pub invariant-stretches : goal.invariant-stretches
invariant-stretches l = (l.count ≤ l.end) × AllByRecursion IsVisible (take l.count l.bytes)

abbrev pub decreases-stretches : goal.decreases-stretches
decreases-stretches l = l.end - l.count
