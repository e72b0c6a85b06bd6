use Rattle.std.proofs.Common.{◌≡◌, ℕ, suc, ◌<◌, false, length}
use Rattle.textarea_text.specs.Prelude.{chars, is_word_last_from}
use Rattle.textarea_text.proofs.WordLemmas.{class_before}
use Rattle.textarea_text.proofs.word.find_word_last.Given as goal

abbrev pub invariant-loop-c : goal.invariant-loop-c
invariant-loop-c l = record {
  count : l.count ≡ length l.yielded;
  before : l.before ≡ class_before (chars l.text) l.count;
  failed : (e : ℕ) → suc e < l.count → is_word_last_from (chars l.text) 0 e ≡ false;
}
