use Rattle.std.proofs.Common.{ap, arith}
use Rattle.textarea_blocks.specs.Sums.{line_bytes}
use Rattle.textarea_blocks.proofs.LineSums.{size_total-more}
use Rattle.textarea_blocks.proofs.sums.size_of_rows.Goals as goal

pub loop-line-preserved : goal.loop-line-preserved
loop-line-preserved c =
    omega (arith, size_total-more c.args.rows.now c.loop-line.line-index c.line-item.result (omega arith) c.line-item.is, ap line_bytes c.as_slice.ensures, c.line_bytes.ensures, c.loop-line.invariant)
