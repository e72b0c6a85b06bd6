use Rattle.std.proofs.Common.{◌≡◌, ◌+◌, ◌∷◌, refl, sym, ◌∙◌, subst}
use Rattle.std.specs.Prelude.{All, Contains}
use Rattle.std.proofs.lemmas.List.Elements.{All-contains_itself, All-head, All-nil, All-tail}
use Rattle.regex.specs.Strings.{matcher_pattern}
use Rattle.textarea_search.specs.ListedMatches.{IsOneOf, after_match}
use Rattle.textarea_search.specs.Spans.{spans_after}
use Rattle.textarea_search.proofs.search.sparse_matches.list_matches.Goals as goal

pub loop-found-init : goal.loop-found-init
loop-found-init c =
    let all = spans_after (matcher_pattern c.args.matcher.now) c.args.line.now 0 in (
      refl,
      tt,
      All-contains_itself all,
      subst (All (IsOneOf all c.args.line.now)) (sym c.clear.ensures.items) (All-nil (IsOneOf all c.args.line.now)),
    )

pub loop-found-preserved : goal.loop-found-preserved
loop-found-preserved c =
    let inv = c.loop-found.invariant in
    let tree = matcher_pattern c.args.matcher.now in
    let line = c.args.line.now in
    let all = spans_after tree line 0 in
    let found = c.in-Some.found in
    let rest = spans_after tree line (found.end + 1) in
    let left : spans_after tree line (after_match c.loop-found.last) ≡ (found.start, found.end) ∷ rest =
    subst (λ t. spans_after t line (after_match c.loop-found.last) ≡ (found.start, found.end) ∷ spans_after t line (found.end + 1)) inv.0 c.in-Some.ensures.found in
    let listed = subst (All (Contains all)) left inv.2 in (
      c.in-Some.ensures.same ∙ inv.0,
      c.in-Some.ensures.place,
      All-tail (Contains all) (found.start, found.end) rest listed,
      c.in_ok-push_if_far.ensures all line (record { place = c.in-Some.ensures.place; listed = ∣ All-head (Contains all) (found.start, found.end) rest listed ∣₁ }) inv.3,
    )
