use Rattle.std.proofs.Common.{refl, ap, ◌∙◌, map, true}
use Rattle.std.proofs.lemmas.List.{map-append}
use Rattle.textarea_paint.specs.Clusters.{in_style}
use Rattle.textarea_paint.specs.Prelude.{graphemes}
use Rattle.textarea_paint.proofs.ClusterLemmas.{units_run}
use Rattle.textarea_paint.proofs.UnitLemmas.{front-clusters}
use Rattle.textarea_paint.proofs.paint.clusters.split_run.Goals as goal

pub returns-clause-steps : goal.returns-clause-steps
returns-clause-steps c =
    ap (map (in_style c.args.style)) (front-clusters c.utf8.text c.in_ok-units.ensures)
    ∙ map-append (in_style c.args.style) (graphemes true c.in_ok-units.units.text.now) (graphemes true c.in_ok-units.units.after.now)

pub returns-clause-run : goal.returns-clause-run
returns-clause-run c = units_run c.args.most _ c.utf8.text refl c.in_ok-units.ensures
