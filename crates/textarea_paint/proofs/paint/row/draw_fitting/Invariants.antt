use Rattle.textarea_screen.specs.Text.{line_view}
use Rattle.textarea_paint.specs.Cells.{place_from}
use Rattle.textarea_paint.specs.Clusters.{AreInline, row_clusters}
use Rattle.textarea_paint.specs.LineClusters.{clusters_left}
use Rattle.textarea_paint.specs.Row.{fitting}
use Rattle.textarea_paint.proofs.RowLemmas.{IsDrawing, fitting_ahead}
use Rattle.textarea_paint.proofs.paint.row.draw_fitting.Given as goal

abbrev pub invariant-loop-cluster : goal.invariant-loop-cluster
invariant-loop-cluster l = record {
  drawing : IsDrawing l.cells 0 (place_from l.fn.start (fitting l.cells.width (row_clusters l.fn.style (line_view l.fn.line)))) l.fn.buffer l.buffer l.pen
      (fitting_ahead l.cells.width l.room (clusters_left l.cluster-iterator));
  short : AreInline (row_clusters l.fn.style (line_view l.fn.line)) → AreInline (clusters_left l.cluster-iterator);
}
