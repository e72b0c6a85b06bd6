use Rattle.std.proofs.Common.{◌≡◌, length}
use Rattle.std.specs.Slice.Iter.{iter_rest}
use Rattle.textarea_paint.specs.LineClusters.{clusters_left}
use Rattle.textarea_paint.proofs.paint.clusters.LineClusters.next_run.Given as goal

abbrev pub invariant-loop-run : goal.invariant-loop-run
invariant-loop-run l = clusters_left l.self ≡ clusters_left l.initial.self

abbrev pub decreases-loop-run : goal.decreases-loop-run
decreases-loop-run l = length (iter_rest l.self.spans)
