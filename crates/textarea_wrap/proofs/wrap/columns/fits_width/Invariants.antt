use Rattle.std.proofs.Common.{◌≤◌}
use Rattle.textarea_wrap.specs.Prelude.{chars_rest}
use Rattle.textarea_wrap.proofs.VisibleLemmas.{IsLeft}
use Rattle.textarea_wrap.proofs.wrap.columns.fits_width.Given as goal

abbrev pub invariant-loop-c : goal.invariant-loop-c
invariant-loop-c l = IsLeft l.tab_len 0 l.text l.column (chars_rest l.c-iterator) × (l.column ≤ l.width)
