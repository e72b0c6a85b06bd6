use Rattle.std.proofs.Common.{◌≡◌, ℕ, ◌≤◌, List, [], ◌∷◌, ◌++◌, length, sym, length-append, ap, subst, ◌∙◌, arith}
use Rattle.std.specs.Prelude.{All}
use Rattle.regex.specs.Strings.{matcher_pattern}
use Rattle.textarea_search.specs.ListedMatches.{after_match, column_of_match}
use Rattle.textarea_search.proofs.AscendingLemmas.{IsAscending, ascending_more, below_more, listed_more}
use Rattle.textarea_search.proofs.ColumnLemmas.{column_at_boundary}
use Rattle.textarea_search.proofs.FromMatchLemmas.{columns_step, next_not_before}
use Rattle.textarea_search.proofs.search.listed_match.list_columns.Goals as goal

pub loop-found-preserved : goal.loop-found-preserved
loop-found-preserved c =
    let line : List ℕ = c.args.line.now in
    let inv = c.loop-found.invariant in
    let tree = matcher_pattern c.args.matcher.now in
    let found = c.in-Some.found in
    let place = c.in-Some.ensures.place in
    let items = c.loop-found.columns.items in
    let pushed : c.push.new.self.items ≡ items ++ found.column ∷ [] = c.in_ok-push.ensures.items in
    let left = columns_step _ tree line (after_match c.loop-found.last) found inv.0 place c.in-Some.ensures.found in
    let least : column_of_match c.loop-found.last ≤ found.column = next_not_before tree line c.utf8.line c.loop-found.last found.column _ inv.1 left in (
      c.in-Some.ensures.same ∙ inv.0,
      place,
      omega (arith, place.column, (column_at_boundary line found.start c.utf8.line place.starts).0),
      listed_more items c.push.new.self.items _ _ _ found.column pushed left inv.3,
      subst (All (λ n. n ≤ found.column)) (sym pushed) (below_more items (column_of_match c.loop-found.last) found.column inv.4 least),
      subst IsAscending (sym pushed) (ascending_more items (column_of_match c.loop-found.last) found.column inv.4 least inv.5),
      omega (arith, ap length pushed, length-append items (found.column ∷ []), inv.6),
    )
