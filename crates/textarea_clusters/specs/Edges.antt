-- The edges of the grapheme clusters of a line: the columns at which one begins or ends.
use Rattle.std.specs.Prelude.{◌≡◌, ℕ, zero, suc, ◌-◌, ◌<◌, ◌≤◌, Bool, true, false, List, take, drop, reverse, length, if◌then◌else◌}
use Rattle.std.specs.Str.{IsCharBoundary}
use Rattle.unicode_segmentation.specs.Grapheme.{is_grapheme_break}
use Rattle.unicode_segmentation.specs.Segments.{breaks_at}

-- an extended grapheme cluster of the line's characters begins or ends at the column, by the rules
-- of Unicode; one does at the line's start and at its end
abbrev pub is_cluster_edge : List ℕ → ℕ → Bool
is_cluster_edge line column = is_grapheme_break true (reverse (take column line)) (drop column line)

-- the last edge at or before the column
unfoldable pub edge_back : List ℕ → ℕ → ℕ
edge_back line zero = zero
edge_back line (suc column) = if is_cluster_edge line (suc column) then suc column else edge_back line column

-- the first edge among the column and so many columns after it, of which the last is taken for one
unfoldable pub first_edge : List ℕ → ℕ → ℕ → ℕ
first_edge line column zero = column
first_edge line column (suc more) =
    if is_cluster_edge line column then column else first_edge line (suc column) more

-- the first edge at or after the column
abbrev pub edge_ahead : List ℕ → ℕ → ℕ
edge_ahead line column = first_edge line column (length line - column)

-- no cluster begins or ends from one byte offset up to, and without, another
abbrev pub HasNoBreak : List ℕ → ℕ → ℕ → Type 0
HasNoBreak text from to =
    (at : ℕ) → from ≤ at → at < to → IsCharBoundary text at
    → breaks_at (is_grapheme_break true) text at ≡ false
