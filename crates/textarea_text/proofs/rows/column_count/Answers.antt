use Rattle.std.proofs.Common.{ap, arith}
use Rattle.std.proofs.lemmas.Grind.{common_steps}
use Rattle.std.specs.Fmt.{char_count}
use Rattle.textarea_text.proofs.CharCounts.{char_count-is, char_count-le-length, char_count-parts}
use Rattle.textarea_text.proofs.rows.column_count.Goals as goal

pub counting-init : goal.counting-init
counting-init c = omega (arith, ap char_count c.as_bytes-rest.ensures.value)

pub overflow_add-count : goal.overflow_add-count
overflow_add-count c =
    grind (arith, common_steps, char_count-le-length, char_count-parts)

pub counting-smaller : goal.counting-smaller
counting-smaller c = omega (arith, c.split_at.ensures.back_len, c.counting-test.true)

pub counting-preserved : goal.counting-preserved
counting-preserved c =
    grind (arith, common_steps, char_count-parts c.counting.rest.now c.split_at.result.0.now c.split_at.result.1.now 192 c.split_at.ensures.front c.split_at.ensures.back)

pub overflow_add-result : goal.overflow_add-result
overflow_add-result c = omega (arith, c.counting.invariant, c.count_of_starts-last.ensures, c.from.ensures, char_count-le-length c.args.line.now)

pub returns : goal.returns
returns c = omega (arith, c.counting.invariant, c.count_of_starts-last.ensures, c.from.ensures, char_count-is c.args.line.now c.utf8.line)
