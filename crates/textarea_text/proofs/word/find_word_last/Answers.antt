use Rattle.std.proofs.Common.{◌≡◌, ℕ, ◌+◌, ◌<◌, true, false, length, arith, sym, ◌∙◌, ap}
use Rattle.textarea_text.proofs.Prelude.{YieldsList-from_chars, YieldsList-turn, YieldsList-end, length_push}
use Rattle.textarea_text.specs.Prelude.{chars, is_word_last_from}
use Rattle.textarea_text.proofs.NearestLemmas.{failed_before, IsLeast-none}
use Rattle.textarea_text.proofs.WordLemmas.{IsTurn-chars, class_before-after, is_word_last_from-turn, is_word_last_from-end, is_word_last_from-early, is_word_last_from-past}
use Rattle.textarea_text.proofs.word.find_word_last.Goals as goal
use Rattle.textarea_text.proofs.word.find_word_last.Goals.{else-count-gt0-via-then-count-gt0+else-ends_word, else-count-gt0-via-else-count-gt0}
use Rattle.textarea_text.proofs.word.find_word_last.Goals.{else-is_word-via-then-is_word+else-count-ne0, else-is_word-via-else-is_word}

pub loop-c-preserved : goal.loop-c-preserved
loop-c-preserved c =
    let line = chars c.args.text.now in
    let t = YieldsList-turn (YieldsList-from_chars c.args.text.now c.utf8.text cc) c.loop-c.yielded _ c.loop-c.yielded_by _ _ c.in-Some.c c.in-Some.is c.next.ensures.steps in
    let turn = IsTurn-chars line (length c.loop-c.yielded) c.loop-c.count c.in-Some.c c.new-kind.result c.loop-c.invariant.count t.0 t.1 c.new-kind.ensures in
    let failed : (e : ℕ) → e < c.loop-c.count → is_word_last_from line 0 e ≡ false =
    elim c.else-count-gt0.branch [
      | else-count-gt0-via-then-count-gt0+else-ends_word w ↦
          failed_before (is_word_last_from line 0) c.loop-c.count c.loop-c.invariant.failed
          (is_word_last_from-turn line 0 c.loop-c.count _ _ false w.if-count-gt0.true turn c.loop-c.invariant.before (sym w.ends_word.ensures ∙ w.if-ends_word.false))
      | else-count-gt0-via-else-count-gt0 w ↦ λ e below. is_word_last_from-early line 0 e (omega (arith, w.if-count-gt0.false))
    ] in
    record {
      count = ap (λ (n : ℕ). n + 1) c.loop-c.invariant.count ∙ sym (length_push c.loop-c.yielded c.in-Some.c);
      before = class_before-after line c.loop-c.count _ turn;
      failed = λ e below. failed e (omega arith);
    }

pub returns-then-ends_word : goal.returns-then-ends_word
returns-then-ends_word c =
    let line = chars c.args.text.now in
    let t = YieldsList-turn (YieldsList-from_chars c.args.text.now c.utf8.text cc) c.loop-c.yielded _ c.loop-c.yielded_by _ _ c.in-Some.c c.in-Some.is c.next.ensures.steps in
    let turn = IsTurn-chars line (length c.loop-c.yielded) c.loop-c.count c.in-Some.c c.new-kind.result c.loop-c.invariant.count t.0 t.1 c.new-kind.ensures in
    let here = is_word_last_from-turn line 0 c.loop-c.count _ _ true c.if-count-gt0.true turn c.loop-c.invariant.before (sym c.ends_word.ensures ∙ c.if-ends_word.true) in
    record {
      least = (here, λ e earlier. c.loop-c.invariant.failed e (omega arith));
      within = omega (arith, turn.within, c.if-count-gt0.true);
    }

pub returns-then-count-ne0 : goal.returns-then-count-ne0
returns-then-count-ne0 c =
    let line = chars c.args.text.now in
    let t = YieldsList-end (YieldsList-from_chars c.args.text.now c.utf8.text cc) c.loop-c.yielded _ c.loop-c.yielded_by _ _ c.in-None.is c.next.ensures.steps in
    let whole : c.loop-c.count ≡ length line = c.loop-c.invariant.count ∙ t.1 in
    let here = is_word_last_from-end line 0 c.loop-c.count _ true (omega arith) whole c.loop-c.invariant.before (sym c.ends_word-is_word.ensures ∙ c.if-is_word.true) in
    record {
      least = (here, λ e earlier. c.loop-c.invariant.failed e (omega arith));
      within = omega arith;
    }

pub returns-else-is_word : goal.returns-else-is_word
returns-else-is_word c =
    let line = chars c.args.text.now in
    let t = YieldsList-end (YieldsList-from_chars c.args.text.now c.utf8.text cc) c.loop-c.yielded _ c.loop-c.yielded_by _ _ c.in-None.is c.next.ensures.steps in
    let whole : c.loop-c.count ≡ length line = c.loop-c.invariant.count ∙ t.1 in
    let failed : (e : ℕ) → e < c.loop-c.count → is_word_last_from line 0 e ≡ false =
    elim c.else-is_word.branch [
      | else-is_word-via-then-is_word+else-count-ne0 w ↦ λ e below. absurd (omega (arith, w.if-count-ne0.false))
      | else-is_word-via-else-is_word w ↦ λ e below.
          failed_before (is_word_last_from line 0) c.loop-c.count c.loop-c.invariant.failed
          (is_word_last_from-end line 0 c.loop-c.count _ false (omega arith) whole c.loop-c.invariant.before (sym c.ends_word-is_word.ensures ∙ w.if-is_word.false)) e below
    ] in
    record {
      least = IsLeast-none (is_word_last_from line 0) c.loop-c.count failed (λ e past. is_word_last_from-past line 0 e (omega (arith, whole)));
      within = tt;
    }
