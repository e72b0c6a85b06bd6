use Rattle.std.proofs.Common.{arith}
use Rattle.textarea_text.proofs.CharCounts.{char_count-nil}
use Rattle.textarea_text.proofs.rows.skipped_bytes.Goals as goal

pub returns-then-count-lt-SHORT_STRETCH-clause-left : goal.returns-then-count-lt-SHORT_STRETCH-clause-left
returns-then-count-lt-SHORT_STRETCH-clause-left c = omega (arith, char_count-nil)

pub returns-clause-left : goal.returns-clause-left
returns-clause-left c =
    omega (arith, char_count-nil, c.skipped_stretches-long.ensures.left, c.skipped_stretches-middle.ensures.left, c.skipped_stretches.ensures.left)
