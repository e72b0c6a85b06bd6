use Rattle.std.proofs.lemmas.Grind.{common_steps}
use Rattle.std.proofs.Common.{true, refl, sym, ap, ◌∙◌, arith}
use Rattle.unicode_segmentation.specs.Grapheme.{graphemes}
use Rattle.textarea_paint.specs.LineClusters.{run_clusters}
use Rattle.textarea_paint.proofs.ClusterLemmas.{clusters_left-run, clusters_left-span, clusters_left-none}
use Rattle.textarea_paint.proofs.paint.clusters.LineClusters.next_run.Goals as goal

pub returns-in-Some-clause-steps : goal.returns-in-Some-clause-steps
returns-in-Some-clause-steps c =
    sym c.loop-run.invariant ∙ clusters_left-run c.loop-run.self _ (run_clusters c.in-Some.run') c.in-Some.ensures.steps refl refl refl

pub returns-in_err-span-clause-steps : goal.returns-in_err-span-clause-steps
returns-in_err-span-clause-steps c = grind (arith, common_steps, clusters_left-none)

pub loop-run-preserved : goal.loop-run-preserved
loop-run-preserved c =
    sym (clusters_left-span c.loop-run.self _ c.in_ok-span.span.now c.in_default.ensures.steps.0 c.in_ok-span.ensures.steps refl c.patch-self.ensures (ap (graphemes true) c.as_str.ensures)) ∙ c.loop-run.invariant
