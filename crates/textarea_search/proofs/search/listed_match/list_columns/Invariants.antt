use Rattle.std.proofs.Common.{◌≡◌, ◌+◌, ◌-◌, ◌≤◌, ◌++◌, IfSome, length}
use Rattle.std.specs.Prelude.{All}
use Rattle.std.specs.Str.{chars}
use Rattle.regex.specs.Strings.{matcher_pattern}
use Rattle.textarea_search.specs.ListedMatches.{IsMatchIn, after_match, column_of_match}
use Rattle.textarea_search.specs.Spans.{columns_after, columns_in}
use Rattle.textarea_search.proofs.AscendingLemmas.{IsAscending}
use Rattle.textarea_search.proofs.search.listed_match.list_columns.Given as goal

abbrev pub invariant-loop-found : goal.invariant-loop-found
invariant-loop-found l =
    let tree = matcher_pattern l.fn.matcher in
    (matcher_pattern l.matcher ≡ tree)
    × IfSome l.last (IsMatchIn l.line)
    × (column_of_match l.last ≤ length (chars l.line))
    × (l.columns.items ++ columns_after tree l.line (after_match l.last) ≡ columns_in tree l.line)
    × All (λ column. column ≤ column_of_match l.last) l.columns.items
    × IsAscending l.columns.items
    × (length l.columns.items ≤ 65536)

abbrev pub decreases-loop-found : goal.decreases-loop-found
decreases-loop-found l = length l.line + 1 - after_match l.last
