use Rattle.std.proofs.Common.{◌≡◌, ◌+◌, ◌-◌, IfSome, length}
use Rattle.std.specs.List.{find}
use Rattle.regex.specs.Strings.{matcher_pattern}
use Rattle.textarea_search.specs.ListedMatches.{IsMatchIn, after_match}
use Rattle.textarea_search.specs.Spans.{columns_after, columns_in}
use Rattle.textarea_search.specs.Starts.{is_past}
use Rattle.textarea_search.proofs.search.listed_match.first_from.Given as goal

abbrev pub invariant-loop-found : goal.invariant-loop-found
invariant-loop-found l =
    let tree = matcher_pattern l.fn.matcher in
    (matcher_pattern l.matcher ≡ tree)
    × IfSome l.last (IsMatchIn l.line)
    × (find (is_past l.column l.at_column) (columns_after tree l.line (after_match l.last))
    ≡ find (is_past l.column l.at_column) (columns_in tree l.line))

abbrev pub decreases-loop-found : goal.decreases-loop-found
decreases-loop-found l = length l.line + 1 - after_match l.last
