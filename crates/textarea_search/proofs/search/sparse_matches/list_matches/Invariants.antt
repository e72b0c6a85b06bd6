use Rattle.std.proofs.Common.{◌≡◌, ◌+◌, ◌-◌, IfSome, length}
use Rattle.std.specs.Prelude.{All, Contains}
use Rattle.regex.specs.Strings.{matcher_pattern}
use Rattle.textarea_search.specs.ListedMatches.{IsMatchIn, IsOneOf, after_match}
use Rattle.textarea_search.specs.Spans.{spans_after}
use Rattle.textarea_search.proofs.search.sparse_matches.list_matches.Given as goal

abbrev pub invariant-loop-found : goal.invariant-loop-found
invariant-loop-found l =
    let tree = matcher_pattern l.fn.matcher in
    (matcher_pattern l.matcher ≡ tree)
    × IfSome l.last (IsMatchIn l.line)
    × All (Contains (spans_after tree l.line 0)) (spans_after tree l.line (after_match l.last))
    × All (IsOneOf (spans_after tree l.line 0) l.line) l.matches.items

abbrev pub decreases-loop-found : goal.decreases-loop-found
decreases-loop-found l = length l.line + 1 - after_match l.last
