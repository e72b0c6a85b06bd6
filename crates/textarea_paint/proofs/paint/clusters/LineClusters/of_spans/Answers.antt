use Rattle.std.proofs.lemmas.Grind.{common_steps}
use Rattle.std.proofs.Common.{arith}
use Rattle.std.proofs.lemmas.List.{nil_from_length}
use Rattle.textarea_paint.proofs.ClusterLemmas.{clusters_left-spans}
use Rattle.textarea_paint.proofs.PrintableLemmas.{graphemes-nil}
use Rattle.textarea_paint.proofs.paint.clusters.LineClusters.of_spans.Goals as goal

pub returns : goal.returns
returns c = grind (arith, common_steps, clusters_left-spans, nil_from_length, graphemes-nil)
