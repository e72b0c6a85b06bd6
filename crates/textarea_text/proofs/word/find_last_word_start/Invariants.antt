use Rattle.std.proofs.Common.{◌≡◌, length}
use Rattle.textarea_text.specs.Prelude.{chars, greatest_below, is_earlier_word_start}
use Rattle.textarea_text.proofs.WordLemmas.{class_before}
use Rattle.textarea_text.proofs.word.find_last_word_start.Given as goal

abbrev pub invariant-loop-column : goal.invariant-loop-column
invariant-loop-column l = record {
  before : l.before ≡ class_before (chars l.text) (length l.yielded);
  found : l.found ≡ greatest_below (is_earlier_word_start (chars l.text) l.end) (length l.yielded);
}
