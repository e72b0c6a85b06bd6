use Rattle.std.proofs.Common.{◌≡◌, ◌∙◌, List, ℕ, subst, sym}
use Rattle.regex.specs.Patterns.{ReadsAsText}
use Rattle.regex_hir.specs.Re.{literal}
use Rattle.textarea_search.specs.Spans.{ListsMatchesOf}
use Rattle.textarea_search.proofs.PatternLemmas.{needle_of_plain}
use Rattle.textarea_search.proofs.pattern.Pattern.finder.Goals as goal

pub returns-then-self : goal.returns-then-self
returns-then-self c =
    let pattern : List ℕ = c.args.self.now in
    let plain : ReadsAsText pattern pattern = subst (λ text. ReadsAsText text text) c.self.view_is (c.self.invariant.2 c.if-self.true) in
    let is : c.new.result ≡ pattern = c.new.ensures ∙ c.text.ensures in
    subst (λ needle. ListsMatchesOf pattern (literal needle)) (sym is) (needle_of_plain pattern plain)
