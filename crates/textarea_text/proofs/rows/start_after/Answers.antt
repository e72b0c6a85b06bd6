use Rattle.std.proofs.Common.{◌∙◌, ap, arith, sym, length}
use Rattle.textarea_text.proofs.Prelude.{common_steps, take_all}
use Rattle.std.specs.Fmt.{char_count}
use Rattle.textarea_text.proofs.CharCounts.{char_count-more}
use Rattle.textarea_text.proofs.StartLemmas.{count_within}
use Rattle.textarea_text.proofs.rows.start_after.Goals as goal
use Rattle.textarea_text.proofs.rows.start_after.Goals.{then-begins_character+else-left-eq0, else-begins_character}

pub returns-then-left-eq0 : goal.returns-then-left-eq0
returns-then-left-eq0 c = record {
  within = omega arith;
  count = omega (arith, c.loop-index.invariant, count_within c.args.bytes.now c.loop-index.index);
  start = λ _. sym c.begins_character.ensures ∙ c.if-begins_character.true;
}

pub loop-index-preserved : goal.loop-index-preserved
loop-index-preserved c =
    grind (arith, common_steps, char_count-more)

pub returns : goal.returns
returns c =
    let whole = take_all c.loop-index.index c.args.bytes.now (omega (arith, c.loop-index-test.false)) in
    record {
      within = omega arith;
      count = omega (arith, c.loop-index.invariant, ap char_count whole, ap char_count (take_all (length c.args.bytes.now) c.args.bytes.now (omega arith)));
      start = λ past. absurd (omega (arith, past));
    }
