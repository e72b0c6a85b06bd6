use Rattle.std.proofs.Common.{subst, sym}
use Rattle.std.specs.Prelude.{All}
use Rattle.std.proofs.lemmas.List.Elements.{All-push}
use Rattle.textarea_search.specs.ListedMatches.{IsOneOf}
use Rattle.textarea_search.proofs.search.sparse_matches.push_if_far.Goals as goal

pub returns : goal.returns
returns c = λ spans line one all. subst (All (IsOneOf spans line)) (sym c.in_ok-push.ensures.items) (All-push (IsOneOf spans line) c.args.matches.now.items c.args.found all one)
