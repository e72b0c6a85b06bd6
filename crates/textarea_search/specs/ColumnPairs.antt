-- The columns at which the matches of a line start and end.
use Rattle.std.specs.Prelude.{ℕ, List, map}
use Rattle.regex.specs.Patterns.{Re}
use Rattle.textarea_search.specs.Columns.{column_of_byte}
use Rattle.textarea_search.specs.Matches.{match_spans}
use Rattle.textarea_search.specs.Spans.{spans_after}

-- the columns of the byte offsets at which a span starts and ends
abbrev pub columns_of_span : List ℕ → ℕ × ℕ → ℕ × ℕ
columns_of_span line span = (column_of_byte line span.0, column_of_byte line span.1)

-- the columns at which each match of the pattern starts and ends (exclusive), in the list's order
abbrev pub match_column_pairs : List ℕ → List ℕ → List (ℕ × ℕ)
match_column_pairs pattern line = map (columns_of_span line) (match_spans pattern line)

-- the same for the matches of a tree after the one that ended at `after - 1`
abbrev pub column_pairs_after : Re → List ℕ → ℕ → List (ℕ × ℕ)
column_pairs_after tree line after = map (columns_of_span line) (spans_after tree line after)
