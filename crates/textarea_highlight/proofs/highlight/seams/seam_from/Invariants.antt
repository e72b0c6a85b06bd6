use Rattle.std.proofs.Common.{◌-◌, ◌<◌, ◌≤◌, length}
use Rattle.textarea_highlight.specs.Seams.{IsSeam, IsWalk}
use Rattle.textarea_highlight.proofs.highlight.seams.seam_from.Given as goal

abbrev pub invariant-walking : goal.invariant-walking
invariant-walking l =
    IsWalk l.row l.tab_len l.walk × (l.fn.mark.offset < l.walk.seam.offset → IsSeam l.row l.walk.seam.offset)
    × ((l.fn.mark.offset < l.walk.seam.offset → l.walk.seam.column < l.column) × (l.fn.mark.offset ≤ l.walk.seam.offset))

abbrev pub decreases-walking : goal.decreases-walking
decreases-walking l = length l.row - l.walk.at.offset
