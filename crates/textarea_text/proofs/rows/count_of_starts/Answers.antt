use Rattle.std.proofs.Common.{◌+◌, ◌∙◌, ap, arith, sym}
use Rattle.textarea_text.proofs.Prelude.{common_steps, take_all}
use Rattle.std.specs.Fmt.{char_count}
use Rattle.textarea_text.proofs.CharCounts.{char_count-more, char_count-nil, char_count-take-le}
use Rattle.textarea_text.proofs.rows.count_of_starts.Goals as goal

pub loop-byte-init : goal.loop-byte-init
loop-byte-init c = sym char_count-nil

pub overflow_add-count : goal.overflow_add-count
overflow_add-count c =
    grind (arith, common_steps, char_count-take-le, char_count-more)

pub loop-byte-preserved : goal.loop-byte-preserved
loop-byte-preserved c =
    ap (λ k. k + c.from-count.result) c.loop-byte.invariant
    ∙ sym (char_count-more c.args.bytes.now c.loop-byte.byte-index c.from-count.result c.begins_character.result c.loop-byte-test.true c.begins_character.ensures c.from-count.ensures)

pub returns : goal.returns
returns c = c.loop-byte.invariant ∙ ap char_count (take_all c.loop-byte.byte-index c.args.bytes.now (omega (arith, c.loop-byte-test.false)))
