use Rattle.std.proofs.Common.{◌≤◌}
use Rattle.textarea_wrap.proofs.wrap.kept.last_parting.Given as goal

abbrev pub invariant-rows : goal.invariant-rows
invariant-rows l = l.row ≤ l.end

abbrev pub decreases-rows : goal.decreases-rows
decreases-rows l = l.row
