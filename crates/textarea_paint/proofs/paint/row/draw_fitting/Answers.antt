use Rattle.std.proofs.Common.{◌-◌, ◌∷◌, sym, ap, ◌∙◌, arith}
use Rattle.textarea_screen.specs.Text.{line_view}
use Rattle.textarea_paint.specs.Clusters.{row_clusters}
use Rattle.textarea_paint.specs.LineClusters.{clusters_left, styled_cluster}
use Rattle.textarea_paint.specs.Row.{fitting}
use Rattle.textarea_paint.proofs.ClusterLemmas.{AreInline-tail}
use Rattle.textarea_paint.proofs.RowLemmas.{drawing_start, drawing_next, drawing_same, drawing_end, drawing_past, fitting_ahead, fitting_ahead-wide, fitting_ahead-full, fitting_ahead-fits}
use Rattle.textarea_paint.proofs.paint.row.draw_fitting.Goals as goal

pub loop-cluster-init : goal.loop-cluster-init
loop-cluster-init c =
    let all = ap clusters_left c.into_iter-cluster-iterator.ensures.into_iter_gives ∙ c.new-cluster-items.ensures in
    record {
      drawing = drawing_start c.args.cells 0 c.args.start (fitting c.args.cells.width (row_clusters c.args.style (line_view c.args.line.now))) c.args.buffer.now _ _
          (record { hidden = omega arith; x = omega arith }) (ap (fitting c.args.cells.width) all);
      short = λ short. rw all short;
    }

pub loop-cluster-preserved-then-columns-from : goal.loop-cluster-preserved-then-columns-from
loop-cluster-preserved-then-columns-from c =
    let d = c.loop-cluster.invariant.drawing in
    let width = c.args.cells.width in
    let room = c.loop-cluster.room in
    let columns = c.cluster_columns-columns in
    record {
      drawing = drawing_next (styled_cluster c.in-Some.cluster) d
          (ap (fitting_ahead width room) c.in-Some.ensures.steps
          ∙ fitting_ahead-fits width room (styled_cluster c.in-Some.cluster) (clusters_left c.next.new.self) (omega (arith, columns.ensures)) (omega (arith, columns.ensures))
          ∙ ap (λ n. styled_cluster c.in-Some.cluster ∷ fitting_ahead width (room - n) (clusters_left c.next.new.self)) (sym columns.ensures))
          (c.in_ok-pen.ensures.moved 0 d.column d.at) (c.in_ok-pen.ensures.drawn 0 d.column d.at);
      short = λ short. AreInline-tail (styled_cluster c.in-Some.cluster) c.in-Some.ensures.steps (c.loop-cluster.invariant.short short);
    }

pub loop-cluster-preserved : goal.loop-cluster-preserved
loop-cluster-preserved c =
    let width = c.args.cells.width in
    let room = c.loop-cluster.room in
    record {
      drawing = drawing_same (fitting_ahead width room (clusters_left c.next.new.self)) c.loop-cluster.invariant.drawing
          (ap (fitting_ahead width room) c.in-Some.ensures.steps
          ∙ fitting_ahead-wide width room (styled_cluster c.in-Some.cluster) (clusters_left c.next.new.self) (omega (arith, c.cluster_columns-columns.ensures)));
      short = λ short. AreInline-tail (styled_cluster c.in-Some.cluster) c.in-Some.ensures.steps (c.loop-cluster.invariant.short short);
    }

pub returns-in-None-clause-ok : goal.returns-in-None-clause-ok
returns-in-None-clause-ok c =
    drawing_end c.loop-cluster.invariant.drawing (ap (fitting_ahead c.args.cells.width c.loop-cluster.room) c.in-None.ensures.steps.0)

pub returns-then-columns-left-clause-ok : goal.returns-then-columns-left-clause-ok
returns-then-columns-left-clause-ok c =
    drawing_end c.loop-cluster.invariant.drawing
    (ap (fitting_ahead c.args.cells.width c.loop-cluster.room) c.in-Some.ensures.steps
    ∙ fitting_ahead-full c.args.cells.width c.loop-cluster.room (styled_cluster c.in-Some.cluster) (clusters_left c.next.new.self) (omega (arith, c.cluster_columns-columns.ensures))
    (omega (arith, c.cluster_columns-columns.ensures)))

pub returns-then-end-pen-clause-ok : goal.returns-then-end-pen-clause-ok
returns-then-end-pen-clause-ok c = drawing_past c.loop-cluster.invariant.drawing (omega arith)
