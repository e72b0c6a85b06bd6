use Rattle.std.proofs.lemmas.Grind.{common_steps}
use Rattle.std.proofs.Common.{arith, ◌≡◌, IfOk, ap, ◌∙◌, subst}
use Rattle.std.proofs.lemmas.Result.{IfOk-weaker}
use Rattle.regex.specs.Strings.{matcher_pattern, regex_pattern}
use Rattle.textarea_search.specs.Spans.{ListsMatchesOf, spans_after}
use Rattle.textarea_search.proofs.PatternLemmas.{bytes_of_text, listed_as_written, starts_as_written}
use Rattle.textarea_search.proofs.pattern.Pattern.matcher.Goals as goal

pub returns-clause-starts : goal.returns-clause-starts
returns-clause-starts c = grind (arith, common_steps, IfOk-weaker, starts_as_written)

pub returns-clause-lists : goal.returns-clause-lists
returns-clause-lists c =
    let regex = c.self.inside.regex.value in
    let facts = c.self.invariant in
    subst (λ text. IfOk c.matcher.result (λ m. ListsMatchesOf text (matcher_pattern m))) c.self.view_is
    (IfOk-weaker c.matcher.result (λ m. matcher_pattern m ≡ regex_pattern c.deref.result.now) _
    (λ m is line text. ap (λ t. spans_after t line 0) (is ∙ ap regex_pattern c.deref.ensures) ∙ listed_as_written regex facts.0 facts.1 line (bytes_of_text line text))
    c.matcher.ensures.pattern)
