use Rattle.std.proofs.Common.{arith}
use Rattle.std.proofs.lemmas.Str.Pattern.{strip_prefix_char}
use Rattle.textarea_text.proofs.FragmentLemmas.{unified-last_text, unified-split_text}
use Rattle.textarea_text.proofs.fragment.first_returned.Goals as goal

pub returns-in_err-before-clause-parts : goal.returns-in_err-before-clause-parts
returns-in_err-before-clause-parts c = rw c.from_residual.ensures (unified-last_text c.args.text.now c.utf8.text c.in_err-before.ensures.cases)

pub returns-clause-parts : goal.returns-clause-parts
returns-clause-parts c =
    let parts = c.in_ok-before.ensures.cases in
    let after = c.in_ok-before.after in
    rw c.unwrap_or.ensures
    (unified-split_text c.args.text.now parts.0 parts.1 c.in_ok-before.before after c.strip_prefix.result c.utf8.text
    parts.2.0 parts.2.1 parts.3 parts.4
    (strip_prefix_char 10 after.now c.strip_prefix.result c.strip_prefix.ensures.cases (omega arith)))
