use Rattle.std.proofs.Common.{◌≡◌, rules}
use Rattle.std.proofs.lemmas.List.Sorted.{answers_always}
use Rattle.textarea_highlight.specs.Borders.{border_key}
use Rattle.textarea_highlight.proofs.highlight.borders.sort.Goals as goal

pub returns-clause-sorted : goal.returns-clause-sorted
returns-clause-sorted c =
    c.in_ok-sort_by_key.ensures.sorted border_key (answers_always _ (λ a r. r ≡ border_key a.0.now) _ (λ f a r q k. search rules))

pub returns-clause-stable : goal.returns-clause-stable
returns-clause-stable c =
    c.in_ok-sort_by_key.ensures.stable border_key (answers_always _ (λ a r. r ≡ border_key a.0.now) _ (λ f a r q k. search rules))
