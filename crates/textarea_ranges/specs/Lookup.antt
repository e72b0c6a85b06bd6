-- Searches in atomic ranges: which one contains a position, which is at it, what a removal takes.
use Rattle.std.specs.Prelude.{◌≡◌, ◌<◌, ◌≤◌, ◌==◌, nat_lt, nat_le, ◌&&◌, ◌⊎◌, not, Bool, true, false, List, find, All, AllPairs, Option, Some, None}
use Rattle.textarea_text.specs.Place.{Place, IsBefore, IsUpTo}
use Rattle.textarea_text.specs.PlacesAfterSplice.{is_up_to}
use Rattle.textarea_data.specs.declared.range.AtomicRange.{AtomicRange}
use Rattle.textarea_data.specs.declared.range.AtomicCursorBias.{AtomicCursorBias}
use Rattle.textarea_data.specs.declared.range.AtomicCursorBias.TheVariants.{Backward, Forward}
use Rattle.textarea_data.specs.declared.range.AtomicDeleteDirection.{AtomicDeleteDirection}
use Rattle.textarea_data.specs.declared.range.AtomicDeleteDirection.TheVariants.{Backward as DeleteBackward, Forward as DeleteForward}

-- the position of the range's first character
abbrev pub range_start : AtomicRange → Place
range_start range = (range.row, range.start_col)

-- the position after the range's last character
abbrev pub range_end : AtomicRange → Place
range_end range = (range.row, range.end_col)

-- ---- ranges in which a position is looked up

-- each range starts at or before its end, and ends at or before the start of each later one: so do
-- ranges that are valid for some lines, in order
pub record AreApart (ranges : List AtomicRange) : Type 0 where
  pub ordered : All (λ range. range.start_col ≤ range.end_col) ranges
  pub apart : AllPairs (λ one other. IsUpTo (range_end one) (range_start other)) ranges

-- whether the range ends before the position or, with `at_place`, at it
abbrev pub has_ended : Place → Bool → AtomicRange → Bool
has_ended place true range = is_up_to (range_end range) place
has_ended place false range = not (is_up_to place (range_end range))

-- ---- the range that strictly contains a position

-- the position is in the range's row, after its start and before its end
abbrev pub IsInside : Place → AtomicRange → Type 0
IsInside place range =
    (range.row ≡ place.0) × (range.start_col < place.1) × (place.1 < range.end_col)

-- the same as a test
abbrev pub is_inside : Place → AtomicRange → Bool
is_inside place range =
    range.row == place.0 && nat_lt range.start_col place.1 && nat_lt place.1 range.end_col

-- the first range that strictly contains the position; a valid list has no other
abbrev pub range_around : List AtomicRange → Place → Option AtomicRange
range_around ranges place = find (is_inside place) ranges

-- the range's start for Backward, its end for Forward
abbrev pub range_edge : AtomicRange → AtomicCursorBias → Place
range_edge range Backward = range_start range
range_edge range Forward = range_end range

-- the border of the range that was found, or the position if none was
abbrev pub range_edge_or : Option AtomicRange → Place → AtomicCursorBias → Place
range_edge_or None place bias = place
range_edge_or (Some range) place bias = range_edge range bias

-- the position, moved out of the range that strictly contains it
abbrev pub moved_out : List AtomicRange → Place → AtomicCursorBias → Place
moved_out ranges place bias = range_edge_or (range_around ranges place) place bias

-- ---- the range at a position in a direction

-- in the position's row, for Backward the range starts before the position and ends at or after it,
-- for Forward it starts at or before the position and ends after it
abbrev pub IsRangeAtPlace : Place → AtomicDeleteDirection → AtomicRange → Type 0
IsRangeAtPlace place DeleteBackward range =
    (range.row ≡ place.0) × (range.start_col < place.1) × (place.1 ≤ range.end_col)
IsRangeAtPlace place DeleteForward range =
    (range.row ≡ place.0) × (range.start_col ≤ place.1) × (place.1 < range.end_col)

-- the same as a test
abbrev pub is_range_at_place : Place → AtomicDeleteDirection → AtomicRange → Bool
is_range_at_place place DeleteBackward range =
    range.row == place.0 && nat_lt range.start_col place.1 && nat_le place.1 range.end_col
is_range_at_place place DeleteForward range =
    range.row == place.0 && nat_le range.start_col place.1 && nat_lt place.1 range.end_col

-- whether a range that ends at the position isn't at it
abbrev pub passes_end : AtomicDeleteDirection → Bool
passes_end DeleteBackward = false
passes_end DeleteForward = true

-- the first range at the position; a valid list has no other
abbrev pub range_at_place : List AtomicRange → Place → AtomicDeleteDirection → Option AtomicRange
range_at_place ranges place direction = find (is_range_at_place place direction) ranges

-- ---- what a removal takes

-- a removal between the two positions takes the whole range
abbrev pub TakesRange : Place → Place → AtomicRange → Type 0
TakesRange from to range = IsUpTo from (range_start range) × IsUpTo (range_end range) to

-- the range is beside the removal: at or after its end, or at or before its start
abbrev pub IsBeside : Place → Place → AtomicRange → Type 0
IsBeside from to range = IsUpTo to (range_start range) ⊎ IsUpTo (range_end range) from

-- the removal and the range overlap: the range starts before its end, and ends after its start
abbrev pub Overlaps : Place → Place → AtomicRange → Type 0
Overlaps from to range = IsBefore (range_start range) to × IsBefore from (range_end range)

-- each range is taken whole or not at all
abbrev pub TakesWhole : List AtomicRange → Place → Place → Type 0
TakesWhole ranges from to = All (λ range. TakesRange from to range ⊎ IsBeside from to range) ranges

-- the removal, with each end moved out of the range that strictly contains it
abbrev pub widened : List AtomicRange → Place → Place → Place × Place
widened ranges from to = (moved_out ranges from Backward, moved_out ranges to Forward)

-- the widened removal: it contains the removal, and each range that overlaps that; it takes each
-- range whole or not at all; and no smaller one that contains the removal does so
pub record IsWidened (ranges : List AtomicRange) (from to : Place)
    (wide : Place × Place) : Type 0 where
  pub starts : IsUpTo wide.0 from
  pub ends : IsUpTo to wide.1
  pub overlapping : All (λ range. Overlaps from to range → TakesRange wide.0 wide.1 range) ranges
  pub whole : TakesWhole ranges wide.0 wide.1
  pub least : (first last : Place) → IsUpTo first from → IsUpTo to last
      → TakesWhole ranges first last → IsUpTo first wide.0 × IsUpTo wide.1 last
