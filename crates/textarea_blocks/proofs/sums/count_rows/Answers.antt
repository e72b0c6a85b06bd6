use Rattle.std.proofs.Common.{ap, length, arith}
use Rattle.textarea_blocks.proofs.Numbers.{row_total-more}
use Rattle.textarea_blocks.proofs.sums.count_rows.Goals as goal

pub loop-line-preserved : goal.loop-line-preserved
loop-line-preserved c =
    omega (arith, row_total-more c.args.rows.now c.loop-line.line-index c.line-item.result (omega arith) c.line-item.is, ap length c.as_slice.ensures, c.loop-line.invariant)
