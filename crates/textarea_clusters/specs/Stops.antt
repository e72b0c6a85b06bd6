-- The stops of a cursor that goes by whole characters.
use Rattle.std.specs.Prelude.{◌&&◌, ℕ, zero, suc, ◌-◌, Bool, List, not, is_some, length, if◌then◌else◌}
use Rattle.textarea_text.specs.Place.{Place, line_of}
use Rattle.textarea_data.specs.declared.range.AtomicRange.{AtomicRange}
use Rattle.textarea_ranges.specs.Lookup.{range_around}
use Rattle.textarea_clusters.specs.Edges.{is_cluster_edge}

-- neither a grapheme cluster of the line nor an atomic range strictly contains this column of the row
abbrev pub is_column_stop : List AtomicRange → List ℕ → ℕ → ℕ → Bool
is_column_stop ranges line row column =
    is_cluster_edge line column && not (is_some (range_around ranges (row, column)))

-- the same of a position of these lines
abbrev pub is_stop : List AtomicRange → List (List ℕ) → Place → Bool
is_stop ranges rows place = is_column_stop ranges (line_of rows place.0) place.0 place.1

-- the last column that is a stop, at or before this one; the line's start is taken for one
unfoldable pub column_back : List AtomicRange → List ℕ → ℕ → ℕ → ℕ
column_back ranges line row zero = zero
column_back ranges line row (suc column) =
    if is_column_stop ranges line row (suc column) then suc column else column_back ranges line row column

-- the first stop among the column and so many columns after it, of which the last is taken for one
unfoldable pub first_stop : List AtomicRange → List ℕ → ℕ → ℕ → ℕ → ℕ
first_stop ranges line row column zero = column
first_stop ranges line row column (suc more) =
    if is_column_stop ranges line row column then column
    else first_stop ranges line row (suc column) more

-- the last stop of the position's line at or before the position
abbrev pub stop_back : List AtomicRange → List (List ℕ) → Place → Place
stop_back ranges rows place =
    (place.0, column_back ranges (line_of rows place.0) place.0 place.1)

-- the first stop of the position's line at or after the position
abbrev pub stop_ahead : List AtomicRange → List (List ℕ) → Place → Place
stop_ahead ranges rows place =
    let line = line_of rows place.0 in
    (place.0, first_stop ranges line place.0 place.1 (length line - place.1))
