use Rattle.std.proofs.Common.{◌-◌, ◌<◌, ◌≤◌, length}
use Rattle.textarea_highlight.specs.Seams.{IsSeam, IsWalk}
use Rattle.textarea_highlight.proofs.highlight.seams.seam_after.Given as goal

abbrev pub invariant-walking : goal.invariant-walking
invariant-walking l = IsWalk l.row l.tab_len l.walk × (l.start.offset < l.walk.seam.offset → IsSeam l.row l.walk.seam.offset) × (l.start.offset ≤ l.walk.at.offset)

abbrev pub decreases-walking : goal.decreases-walking
decreases-walking l = length l.row - l.walk.at.offset
