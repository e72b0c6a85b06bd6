use Rattle.textarea_history.specs.Prelude.{chars_rest, characters_of}
use Rattle.textarea_history.proofs.Runs.{WrittenBack}
use Rattle.textarea_history.proofs.texts.reverse_text.Given as goal

abbrev pub invariant-loop-c : goal.invariant-loop-c
invariant-loop-c l = WrittenBack l.text (chars_rest l.c-iterator.iter) (characters_of l.result_text)
