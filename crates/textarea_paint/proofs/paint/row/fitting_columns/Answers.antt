use Rattle.std.proofs.Common.{◌-◌, sym, subst, arith}
use Rattle.textarea_screen.specs.Text.{line_view}
use Rattle.textarea_paint.specs.Clusters.{row_clusters}
use Rattle.textarea_paint.specs.LineClusters.{clusters_left, styled_cluster}
use Rattle.textarea_paint.proofs.RowLemmas.{IsMeasuring, measuring_fits, measuring_full, measuring_end}
use Rattle.textarea_paint.proofs.paint.row.fitting_columns.Goals.{in-None, in-Some+then-columns-from+then-columns-left}
use Rattle.textarea_paint.proofs.paint.row.fitting_columns.Goals as goal

pub loop-cluster-preserved-then-columns-from : goal.loop-cluster-preserved-then-columns-from
loop-cluster-preserved-then-columns-from c =
    let columns = c.cluster_columns-columns in
    let row = row_clusters c.args.style (line_view c.args.line.now) in
    let after = clusters_left c.next.new.self in
    subst (λ n. IsMeasuring c.args.width row (c.loop-cluster.room - n) after) (sym columns.ensures)
    (measuring_fits (styled_cluster c.in-Some.cluster) after c.loop-cluster.invariant c.in-Some.ensures.steps (omega (arith, columns.ensures)) (omega (arith, columns.ensures)))

pub returns-clause-value : goal.returns-clause-value
returns-clause-value c = elim c.match-next.branch [
  | in-None w ↦ measuring_end c.loop-cluster.invariant w.in-None.ensures.steps.0
  | in-Some+then-columns-from+then-columns-left w ↦
      measuring_full (styled_cluster w.in-Some.cluster) (clusters_left c.next.new.self) c.loop-cluster.invariant w.in-Some.ensures.steps
      (omega (arith, w.cluster_columns-columns.ensures)) (omega (arith, w.cluster_columns-columns.ensures))
]
