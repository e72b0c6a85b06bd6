use Rattle.std.specs.Iterator.{Yields, YieldsThen}
use Rattle.std.proofs.Common.{◌≡◌, ℕ, List, Option, Some, subst, ◌++◌, ap, sym, ◌∙◌}
use Rattle.std.proofs.lemmas.Bool.{false≢true}
use Rattle.textarea_highlight.specs.Borders.{highlight_borders, search_rank}
use Rattle.textarea_highlight.proofs.BorderLemmas.{match_borders-push}
use Rattle.textarea_highlight.proofs.highlight.borders.borders_of_matches.Goals as goal

-- a match in the loop is one that the iterator yields
step_gives : {S : Type 0} (steps : S → Option (ℕ × ℕ) → S → Type 0) (matches first here rest : S) (before : List (ℕ × ℕ)) (found : ℕ × ℕ) →
    first ≡ matches → Yields steps first before here → steps here (Some found) rest → YieldsThen steps matches before (Some found) rest
step_gives {S} steps matches first here rest before found same yielded step =
    (here, subst (λ (s : S). Yields steps s before here) same yielded, step)

pub loop-found-preserved : goal.loop-found-preserved
loop-found-preserved g c =
    let was = c.loop-found.invariant in
    let found = c.in-Some.found in
    let next = c.in-Some.ensures.goes.on was.finite in
    record {
      can = next.0;
      finite = next.1;
      borders = c.in_ok-push_highlight.ensures.added
          ∙ ap (λ bs. bs ++ highlight_borders c.args.row.now found.0 found.1 c.args.style search_rank) was.borders
          ∙ sym (match_borders-push c.args.row.now c.loop-found.yielded found c.args.style);
      nothing = λ none.
          (c.in_ok-push_highlight.ensures.nothing
          (none c.loop-found.yielded found _
          (step_gives g.I.Iterator.next_gives c.args.matches _ c.loop-found.found-iterator c.next.new.self c.loop-found.yielded found c.into_iter-found-iterator.ensures.into_iter_gives c.loop-found.yielded_by c.in-Some.ensures.steps))).1
          ∙ was.nothing none;
      placed = c.in_ok-push_highlight.ensures.placed was.placed;
    }

pub returns-in_err-push_highlight-clause-nothing : goal.returns-in_err-push_highlight-clause-nothing
returns-in_err-push_highlight-clause-nothing g c = λ none.
    absurd (false≢true (c.in_err-push_highlight.ensures.nothing
    (none c.loop-found.yielded c.in-Some.found _
    (step_gives g.I.Iterator.next_gives c.args.matches _ c.loop-found.found-iterator c.next.new.self c.loop-found.yielded c.in-Some.found
    c.into_iter-found-iterator.ensures.into_iter_gives c.loop-found.yielded_by c.in-Some.ensures.steps))).0)
