-- The matches of a pattern that count: those that split no cluster, if the cursor goes by clusters, and
-- of these those that can be replaced, since they split no atomic range.
use Rattle.std.specs.Prelude.{ℕ, ◌+◌, ◌<◌, ◌≤◌, length, ◌-◌, ◌==◌, ◌&&◌, not, Bool, List, [], ◌∷◌, filter, find, map, encode_utf8_all, is_some, Option, None, Some}
use Rattle.textarea_text.specs.Place.{Place, line_of}
use Rattle.textarea_data.specs.declared.cursor.CursorUnit.{CursorUnit}
use Rattle.textarea_data.specs.declared.cursor.CursorUnit.TheVariants as unit
use Rattle.textarea_data.specs.declared.range.AtomicRange.{AtomicRange}
use Rattle.textarea_clusters.specs.Edges.{is_cluster_edge}
use Rattle.textarea_ranges.specs.Lookup.{range_around}
use Rattle.textarea_search.specs.ColumnPairs.{match_column_pairs}
use Rattle.textarea_search.specs.TextMatches.{matches_from}
use Rattle.textarea_search.specs.declared.search.text_matches.TextMatch.{TextMatch}

abbrev pub start_of_match : TextMatch → Place
start_of_match found = (found.row, found.columns.0)

abbrev pub end_of_match : TextMatch → Place
end_of_match found = (found.row, found.columns.1)

abbrev pub is_empty_match : TextMatch → Bool
is_empty_match found = found.columns.0 == found.columns.1

-- ---- ranges

-- whether the position is strictly inside none of the ranges
abbrev pub is_outside : List AtomicRange → Place → Bool
is_outside ranges place = not (is_some (range_around ranges place))

-- Neither end of the match is strictly inside an atomic range: it overlaps none, or contains each
-- that it overlaps.
abbrev pub cuts_no_range : List AtomicRange → TextMatch → Bool
cuts_no_range ranges found =
    is_outside ranges (found.row, found.columns.0) && is_outside ranges (found.row, found.columns.1)

-- the matches of the pattern in these lines that cut no range; the first line has this row, and
-- symbols are counted from its start
abbrev pub whole_matches : List AtomicRange → Option (List ℕ) → ℕ → List (List ℕ) → List TextMatch
whole_matches ranges None row lines = []
whole_matches ranges (Some pattern) row lines =
    filter (cuts_no_range ranges) (matches_from (match_column_pairs pattern) row 0 (map encode_utf8_all lines))

-- ---- clusters

-- at both ends of the match in these lines, of which the first has this row, a cluster begins or ends
abbrev pub cuts_no_cluster : ℕ → List (List ℕ) → TextMatch → Bool
cuts_no_cluster row lines found =
    let line = line_of lines (found.row - row) in
    is_cluster_edge line found.columns.0 && is_cluster_edge line found.columns.1

-- the match is in one of these lines
pub record IsMatchOfLines (row : ℕ) (lines : List (List ℕ)) (found : TextMatch) : Type 0 where
  pub row_from : row ≤ found.row
  pub row_before : found.row < row + length lines
  pub start : found.columns.0 ≤ length (line_of lines (found.row - row))
  pub stop : found.columns.1 ≤ length (line_of lines (found.row - row))

-- those that cut no range, and no cluster if the cursor goes by clusters
abbrev pub unit_matches : CursorUnit → List AtomicRange → Option (List ℕ) → ℕ → List (List ℕ) → List TextMatch
unit_matches unit.Character ranges pattern row lines = whole_matches ranges pattern row lines
unit_matches unit.Cluster ranges pattern row lines =
    filter (cuts_no_cluster row lines) (whole_matches ranges pattern row lines)

-- where those begin in a text that cut no cluster
abbrev pub cluster_starts : Option (List ℕ) → List (List ℕ) → List Place
cluster_starts pattern rows = map start_of_match (unit_matches unit.Cluster [] pattern 0 rows)

-- ---- replaced matches

-- the numbers of symbols before the start and before the end of a match
abbrev pub indices_of : TextMatch → ℕ × ℕ
indices_of found = found.indices

-- those of each match in the lines of a text that can be replaced
abbrev pub replaceable_in : CursorUnit → List AtomicRange → Option (List ℕ) → List (List ℕ) → List (ℕ × ℕ)
replaceable_in by ranges pattern rows = map indices_of (unit_matches by ranges pattern 0 rows)

-- whether the match begins at this column
abbrev pub begins_at : ℕ → TextMatch → Bool
begins_at column found = found.columns.0 == column

-- the match in the lines that begins at the position, if there is one and it can be replaced
abbrev pub match_at : CursorUnit → List AtomicRange → Option (List ℕ) → List (List ℕ) → Place → Option TextMatch
match_at by ranges pattern rows place =
    find (begins_at place.1) (unit_matches by ranges pattern place.0 (line_of rows place.0 ∷ []))
