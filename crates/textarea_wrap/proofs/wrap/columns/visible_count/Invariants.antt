use Rattle.std.proofs.Common.{◌-◌, ◌≤◌, take}
use Rattle.textarea_wrap.specs.Prelude.{AllByRecursion, IsVisible}
use Rattle.textarea_wrap.proofs.wrap.columns.visible_count.Given as goal

abbrev pub invariant-bytes : goal.invariant-bytes
invariant-bytes l = (l.count ≤ l.end) × AllByRecursion IsVisible (take l.count l.bytes)

abbrev pub decreases-bytes : goal.decreases-bytes
decreases-bytes l = l.end - l.count
