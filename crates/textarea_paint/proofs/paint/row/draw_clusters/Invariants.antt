use Rattle.std.proofs.Common.{length}
use Rattle.textarea_paint.specs.Cells.{place_from}
use Rattle.textarea_paint.specs.Clusters.{AreInline}
use Rattle.textarea_paint.specs.LineClusters.{clusters_left}
use Rattle.textarea_paint.proofs.RowLemmas.{IsDrawing}
use Rattle.textarea_paint.proofs.paint.row.draw_clusters.Given as goal

abbrev pub invariant-loop-pen : goal.invariant-loop-pen
invariant-loop-pen l = record {
  drawing : IsDrawing l.cells l.fn.left (place_from 0 (clusters_left l.fn.clusters)) l.fn.buffer l.buffer l.pen (clusters_left l.clusters);
  short : AreInline (clusters_left l.fn.clusters) → AreInline (clusters_left l.clusters);
}

abbrev pub decreases-loop-pen : goal.decreases-loop-pen
decreases-loop-pen l = length (clusters_left l.clusters)
