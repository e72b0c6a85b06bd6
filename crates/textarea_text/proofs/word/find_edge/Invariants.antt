use Rattle.std.proofs.Common.{◌≡◌, ℕ, ◌<◌, false, length}
use Rattle.textarea_text.specs.Prelude.{chars, is_later_edge}
use Rattle.textarea_text.proofs.WordLemmas.{class_before}
use Rattle.textarea_text.proofs.word.find_edge.Given as goal

abbrev pub invariant-loop-column : goal.invariant-loop-column
invariant-loop-column l = record {
  before : l.before ≡ class_before (chars l.text) (length l.yielded);
  failed : (e : ℕ) → e < length l.yielded → is_later_edge l.edge (chars l.text) 0 e ≡ false;
}
