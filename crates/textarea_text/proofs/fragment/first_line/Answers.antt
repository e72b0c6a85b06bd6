use Rattle.std.proofs.Common.{subst, arith, List, ℕ, Bor}
use Rattle.std.specs.Str.{IsUtf8}
use Rattle.std.proofs.lemmas.Str.Pattern.{strip_suffix_char}
use Rattle.textarea_text.proofs.FragmentLemmas.{fragment_symbols-last_text, fragment_symbols-split_text}
use Rattle.textarea_text.proofs.fragment.first_line.Goals as goal

pub returns-in_err-line-clause-lines : goal.returns-in_err-line-clause-lines
returns-in_err-line-clause-lines c = rw c.from_residual.ensures (fragment_symbols-last_text c.args.text.now c.utf8.text c.in_err-line.ensures.cases)

pub returns-clause-lines : goal.returns-clause-lines
returns-clause-lines c =
    let split_text = c.in_ok-line.ensures.cases in
    let line = c.in_ok-line.line in
    rw c.unwrap_or.ensures
    (fragment_symbols-split_text c.args.text.now c.in_ok-line.after.now split_text.0 split_text.1 line c.strip_suffix.result c.utf8.text
    (subst (λ (x : Bor (List ℕ)). IsUtf8 x.now) c.unwrap_or.ensures c.unwrap_or.utf8) split_text.2.0 split_text.2.1 split_text.3 split_text.4
    (strip_suffix_char 13 line.now c.strip_suffix.result c.strip_suffix.ensures.cases (omega arith)))
