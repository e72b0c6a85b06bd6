use Rattle.std.proofs.Common.{arith}
use Rattle.textarea_c.proofs.Sizes.{size_written}
use Rattle.textarea_c.proofs.calls.lines.ta_lines.Goals as goal

pub returns-clause-limit : goal.returns-clause-limit
returns-clause-limit c = λ _.
    let size = size_written c.lines-lines.result.now in omega (arith, size, c.write_lines.ensures.needed, c.lines-lines.ensures.limit)
