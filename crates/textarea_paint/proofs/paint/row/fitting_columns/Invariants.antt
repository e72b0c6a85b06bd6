use Rattle.textarea_screen.specs.Text.{line_view}
use Rattle.textarea_paint.specs.Clusters.{row_clusters}
use Rattle.textarea_paint.specs.LineClusters.{clusters_left}
use Rattle.textarea_paint.proofs.RowLemmas.{IsMeasuring}
use Rattle.textarea_paint.proofs.paint.row.fitting_columns.Given as goal

abbrev pub invariant-loop-cluster : goal.invariant-loop-cluster
invariant-loop-cluster l = IsMeasuring l.width (row_clusters l.fn.style (line_view l.fn.line)) l.room (clusters_left l.cluster-iterator)
