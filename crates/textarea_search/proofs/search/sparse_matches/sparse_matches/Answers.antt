use Rattle.std.proofs.Common.{List, ℕ, subst, sym}
use Rattle.std.specs.Prelude.{All}
use Rattle.textarea_search.specs.ListedMatches.{IsOneOf}
use Rattle.textarea_search.specs.Matches.{match_spans}
use Rattle.textarea_search.proofs.search.sparse_matches.sparse_matches.Goals as goal

pub invariant_of-result : goal.invariant_of-result
invariant_of-result c =
    let line = c.args.line.now in
    record {
      listed = subst (λ (k : List ℕ × List ℕ). All (IsOneOf (match_spans k.0 k.1) k.1) c.list_matches.new.matches.items) (sym c.in_ok-key.ensures)
          (subst (λ (spans : List (ℕ × ℕ)). All (IsOneOf spans line) c.list_matches.new.matches.items) (c.requires line c.utf8.line) c.in_ok-list_matches.ensures.listed);
    }
