use Rattle.std.proofs.Common.{arith}
use Rattle.textarea_paint.specs.LineClusters.{clusters_left, run_clusters}
use Rattle.textarea_paint.proofs.ClusterLemmas.{AreInline-after, AreInline-front}
use Rattle.textarea_paint.proofs.RowLemmas.{drawing_run, drawing_end, drawing_past}
use Rattle.textarea_paint.proofs.paint.row.draw_clusters.Goals as goal

pub loop-pen-preserved : goal.loop-pen-preserved
loop-pen-preserved c =
    let d = c.loop-pen.invariant.drawing in
    let run = run_clusters c.in-Some.run' in
    record {
      drawing = drawing_run run d c.in-Some.ensures.steps (c.in_ok-pen.ensures.moved c.args.left d.column d.at) (c.in_ok-pen.ensures.drawn c.args.left d.column d.at);
      short = λ short. AreInline-after run (clusters_left c.next_run.new.self) c.in-Some.ensures.steps (c.loop-pen.invariant.short short);
    }

pub returns-in_err-pen-clause-inline : goal.returns-in_err-pen-clause-inline
returns-in_err-pen-clause-inline c = λ short.
    let run = run_clusters c.in-Some.run' in
    cc (c.in_err-pen.ensures.inline (AreInline-front run (clusters_left c.next_run.new.self) c.in-Some.ensures.steps (c.loop-pen.invariant.short short)))

pub returns-after-loop-pen-clause-ok : goal.returns-after-loop-pen-clause-ok
returns-after-loop-pen-clause-ok c = drawing_past c.loop-pen.invariant.drawing (omega arith)

pub returns-in_default-clause-ok : goal.returns-in_default-clause-ok
returns-in_default-clause-ok c = drawing_end c.loop-pen.invariant.drawing c.in_default.ensures.steps.0

pub draw_run-requires : goal.draw_run-requires
draw_run-requires c =
    let d = c.loop-pen.invariant.drawing in
    record {
      edge = c.requires.edge;
      within = (omega (arith, d.at.x), omega (arith, d.at.x));
      fits = c.in-Some.ensures.run.fits;
      pen = (c.args.left, d.column, d.at);
    }
