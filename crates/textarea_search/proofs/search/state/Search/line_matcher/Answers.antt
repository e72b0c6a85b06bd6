use Rattle.std.proofs.Common.{ap, sym, ◌∙◌}
use Rattle.textarea_search.specs.Matches.{match_spans}
use Rattle.textarea_search.proofs.search.state.Search.line_matcher.Goals as goal

pub new-requires : goal.new-requires
new-requires c = λ line text. c.in_ok-matcher.ensures.lists line text ∙ ap (λ p. match_spans p line) (sym c.text.ensures)
