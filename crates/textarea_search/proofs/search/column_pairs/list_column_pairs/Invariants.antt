use Rattle.std.proofs.Common.{◌≡◌, ◌+◌, ◌-◌, ◌≤◌, ◌++◌, IsCharBoundary, length}
use Rattle.std.specs.Prelude.{All}
use Rattle.std.specs.Str.{chars}
use Rattle.regex.specs.Strings.{matcher_pattern}
use Rattle.textarea_search.specs.ColumnPairs.{column_pairs_after}
use Rattle.textarea_search.specs.Columns.{column_of_byte}
use Rattle.textarea_search.proofs.search.column_pairs.list_column_pairs.Given as goal

abbrev pub invariant-loop-found : goal.invariant-loop-found
invariant-loop-found l =
    (matcher_pattern l.matcher ≡ matcher_pattern l.fn.matcher)
    × (l.after ≤ length l.line + 1)
    × IsCharBoundary l.line l.known.0
    × (l.known.1 ≡ column_of_byte l.line l.known.0)
    × (l.known.0 ≤ l.after - 1)
    × All (λ columns. columns.0 ≤ length (chars l.line)) l.pairs.items
    × All (λ columns. columns.1 ≤ length (chars l.line)) l.pairs.items
    × (l.pairs.items ++ column_pairs_after (matcher_pattern l.fn.matcher) l.line l.after ≡ column_pairs_after (matcher_pattern l.fn.matcher) l.line 0)

abbrev pub decreases-loop-found : goal.decreases-loop-found
decreases-loop-found l = length l.line + 1 - l.after
