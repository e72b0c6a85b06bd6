use Rattle.std.proofs.Common.{arith}
use Rattle.textarea_text.proofs.Sizes.{size_of_more}
use Rattle.textarea_text.proofs.rows.size_of.Goals as goal

pub loop-line-preserved : goal.loop-line-preserved
loop-line-preserved c =
    omega (arith, c.loop-line.invariant, size_of_more c.args.lines.now c.loop-line.line-index c.line-item.result (omega arith) c.line-item.is)
