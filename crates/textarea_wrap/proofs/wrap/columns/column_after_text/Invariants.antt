use Rattle.textarea_wrap.specs.Prelude.{chars_rest}
use Rattle.textarea_wrap.proofs.VisibleLemmas.{IsLeft}
use Rattle.textarea_wrap.proofs.wrap.columns.column_after_text.Given as goal

abbrev pub invariant-loop-c : goal.invariant-loop-c
invariant-loop-c l = IsLeft l.tab_len l.column l.text l.end (chars_rest l.c-iterator)
