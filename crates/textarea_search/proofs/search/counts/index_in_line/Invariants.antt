use Rattle.std.proofs.Common.{◌≡◌, ◌+◌, ◌-◌, ◌≤◌, ◌==◌, IfSome, length}
use Rattle.std.specs.List.{position_from}
use Rattle.regex.specs.Strings.{matcher_pattern}
use Rattle.textarea_search.specs.ListedMatches.{IsMatchIn, after_match}
use Rattle.textarea_search.specs.Spans.{columns_after, columns_in}
use Rattle.textarea_search.proofs.search.counts.index_in_line.Given as goal

abbrev pub invariant-loop-found : goal.invariant-loop-found
invariant-loop-found l =
    let tree = matcher_pattern l.fn.matcher in
    (matcher_pattern l.matcher ≡ tree)
    × IfSome l.last (IsMatchIn l.line)
    × (l.index ≤ after_match l.last)
    × (position_from (λ start. start == l.column) l.index (columns_after tree l.line (after_match l.last))
    ≡ position_from (λ start. start == l.column) 0 (columns_in tree l.line))

abbrev pub decreases-loop-found : goal.decreases-loop-found
decreases-loop-found l = length l.line + 1 - after_match l.last
