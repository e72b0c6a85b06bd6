use Rattle.std.proofs.Common.{◌≡◌, ◌≤◌, ℕ, true, false, Some, length, take, min, subst, arith, sym, ◌∙◌, ap}
use Rattle.textarea_text.proofs.Prelude.{YieldsList-from_chars, YieldsList-from_take, YieldsList-turn, YieldsList-end, YieldsList-from_enumerate, length_push, length-take, length-enumerate_from}
use Rattle.textarea_text.specs.Prelude.{IsGreatest, chars, is_earlier_word_start}
use Rattle.textarea_text.proofs.NearestLemmas.{IsGreatest-greatest_below, greatest_below-here, greatest_below-more, greatest_below-past}
use Rattle.textarea_text.proofs.WordLemmas.{IsTurn-enumerate_from, IsTurn-take, class_before-more, is_earlier_word_start-turn, is_earlier_word_start-past, IsGreatest-within}
use Rattle.textarea_text.proofs.word.find_last_word_start.Goals as goal

pub loop-column-preserved-then-begins_word : goal.loop-column-preserved-then-begins_word
loop-column-preserved-then-begins_word c =
    let line = chars c.args.text.now in
    let walk = YieldsList-from_enumerate (YieldsList-from_take c.args.end (YieldsList-from_chars c.args.text.now c.utf8.text cc) cc) cc in
    let t = YieldsList-turn walk c.loop-column.yielded _ c.loop-column.yielded_by _ _ (c.in-Some.column, c.in-Some.c) c.in-Some.is c.next.ensures.steps in
    let front = IsTurn-enumerate_from (take c.args.end line) (length c.loop-column.yielded) c.in-Some.column c.in-Some.c c.new-kind.result t.0 t.1 c.new-kind.ensures in
    let turn = IsTurn-take line c.args.end _ _ _ front in
    let tells = is_earlier_word_start-turn line c.args.end _ _ _ _ true turn.0 turn.1 c.loop-column.invariant.before (sym c.begins_word.ensures ∙ c.if-begins_word.true) in
    record {
      before = class_before-more line c.loop-column.yielded _ _ _ turn.1;
      found = rw (length_push c.loop-column.yielded (c.in-Some.column, c.in-Some.c)) (ap Some turn.1.column_is ∙ sym (greatest_below-here (is_earlier_word_start line c.args.end) (length c.loop-column.yielded) tells));
    }

pub loop-column-preserved : goal.loop-column-preserved
loop-column-preserved c =
    let line = chars c.args.text.now in
    let walk = YieldsList-from_enumerate (YieldsList-from_take c.args.end (YieldsList-from_chars c.args.text.now c.utf8.text cc) cc) cc in
    let t = YieldsList-turn walk c.loop-column.yielded _ c.loop-column.yielded_by _ _ (c.in-Some.column, c.in-Some.c) c.in-Some.is c.next.ensures.steps in
    let front = IsTurn-enumerate_from (take c.args.end line) (length c.loop-column.yielded) c.in-Some.column c.in-Some.c c.new-kind.result t.0 t.1 c.new-kind.ensures in
    let turn = IsTurn-take line c.args.end _ _ _ front in
    let tells = is_earlier_word_start-turn line c.args.end _ _ _ _ false turn.0 turn.1 c.loop-column.invariant.before (sym c.begins_word.ensures ∙ c.if-begins_word.false) in
    record {
      before = class_before-more line c.loop-column.yielded _ _ _ turn.1;
      found = rw (length_push c.loop-column.yielded (c.in-Some.column, c.in-Some.c)) (c.loop-column.invariant.found ∙ sym (greatest_below-more (is_earlier_word_start line c.args.end) (length c.loop-column.yielded) tells));
    }

pub returns : goal.returns
returns c =
    let line = chars c.args.text.now in
    let walk = YieldsList-from_enumerate (YieldsList-from_take c.args.end (YieldsList-from_chars c.args.text.now c.utf8.text cc) cc) cc in
    let t = YieldsList-end walk c.loop-column.yielded _ c.loop-column.yielded_by _ _ c.in-None.is c.next.ensures.steps in
    let whole : length c.loop-column.yielded ≡ min c.args.end (length line) = t.1 ∙ length-enumerate_from 0 (take c.args.end line) ∙ length-take c.args.end line in
    let count = length c.loop-column.yielded in
    let test = is_earlier_word_start line c.args.end in
    let past : (e : ℕ) → count ≤ e → test e ≡ false = λ e le. is_earlier_word_start-past line c.args.end e (omega arith) in
    let greatest = subst (IsGreatest test) (sym c.loop-column.invariant.found) (IsGreatest-greatest_below test count past) in
    record {
      greatest = greatest;
      value = c.loop-column.invariant.found ∙ sym (greatest_below-past test count (length line) (omega arith) past);
      within = IsGreatest-within line c.args.end c.loop-column.found greatest;
    }
