use Rattle.textarea_paint.proofs.PrintableLemmas.{ArePrintable}
use Rattle.textarea_paint.proofs.paint.clusters.plain_count.Given as goal

abbrev pub invariant-loop-at : goal.invariant-loop-at
invariant-loop-at l = ArePrintable l.bytes l.at
