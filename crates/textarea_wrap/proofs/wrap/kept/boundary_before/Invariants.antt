use Rattle.std.proofs.Common.{◌≤◌}
use Rattle.textarea_wrap.proofs.wrap.kept.boundary_before.Given as goal

abbrev pub invariant-back : goal.invariant-back
invariant-back l = l.end ≤ l.at

abbrev pub decreases-back : goal.decreases-back
decreases-back l = l.end
