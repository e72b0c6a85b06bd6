use Rattle.std.proofs.Common.{refl}
use Rattle.textarea_highlight.proofs.BracketLemmas.{style_after}
use Rattle.textarea_highlight.proofs.highlight.brackets.OpenStyles.style.Goals as goal

pub returns-in-Some : goal.returns-in-Some
returns-in-Some c = λ marks passed. style_after marks _ _ _ passed (rw (← c.deref.ensures.value, ← c.last.ensures.value, c.in-Some.is) refl)

pub returns-in-None : goal.returns-in-None
returns-in-None c = λ marks passed. style_after marks _ _ _ passed (rw (← c.deref.ensures.value, ← c.last.ensures.value, c.in-None.is) refl)
