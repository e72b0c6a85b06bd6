use Rattle.std.proofs.Common.{◌∙◌, ℕ, [], ◌∷◌, ap, arith, cond, length, replicate, sym}
use Rattle.std.proofs.lemmas.List.{length-replicate}
use Rattle.textarea_document.specs.Prelude.{chars}
use Rattle.textarea_document.proofs.Indenting.{chars_of_spaces, chars_of_tab}
use Rattle.textarea_document.proofs.document.indenting.tab_characters.Goals as goal

pub returns-then-hard-clause-value : goal.returns-then-hard-clause-value
returns-then-hard-clause-value c = chars_of_tab ∙ sym (ap (λ b. cond b (9 ∷ []) (replicate c.args.tab_length 32)) c.if-hard.true)

pub returns-then-hard-clause-short : goal.returns-then-hard-clause-short
returns-then-hard-clause-short c = omega (arith, ap length chars_of_tab)

pub returns-clause-value : goal.returns-clause-value
returns-clause-value c =
    ap chars c.spaces.ensures ∙ chars_of_spaces c.args.tab_length ∙ sym (ap (λ b. cond b (9 ∷ []) (replicate c.args.tab_length 32)) c.if-hard.false)

pub returns-clause-short : goal.returns-clause-short
returns-clause-short c = omega (arith, ap (λ bs. length (chars bs)) c.spaces.ensures, ap length (chars_of_spaces c.args.tab_length), length-replicate {A = ℕ} c.args.tab_length 32)
