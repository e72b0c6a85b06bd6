-- Where atomic ranges move with their text.
use Rattle.std.specs.Prelude.{◌≡◌, ℕ, ◌≤◌, ◌-◌, Bool, true, false, List, filter_map, take, drop, Option, Some, None, if◌then◌else◌}
use Rattle.textarea_util.specs.Limit.{size_limit}
use Rattle.textarea_text.specs.Text.{Symbol, lines}
use Rattle.textarea_text.specs.Place.{Place, end, line_of}
use Rattle.textarea_text.specs.Splice.{Splice, place_after, place_before}
use Rattle.textarea_text.specs.PlacesAfterSplice.{is_up_to, shifted}
use Rattle.textarea_data.specs.declared.range.AtomicRange.{AtomicRange}
use Rattle.textarea_ranges.specs.Lookup.{IsInside, Overlaps, range_end, range_start}
use Rattle.textarea_ranges.specs.Valid.{IsRangeOfLine}

-- the range, with both ends moved with the text after the old position to the new one
abbrev pub shifted_range : Place → Place → AtomicRange → AtomicRange
shifted_range old new range = record {
  row = (shifted old new (range_start range)).0;
  start_col = (shifted old new (range_start range)).1;
  end_col = (shifted old new (range_end range)).1;
}

-- A text changes from the start to the old position, and the text after it moves to the new one. A
-- range at or before the start stays, one at or after the old position moves, others are dropped.
abbrev pub moved_by : Place → Place → Place → AtomicRange → Option AtomicRange
moved_by start old new range =
    if is_up_to (range_end range) start then Some range
    else (if is_up_to old (range_start range) then Some (shifted_range old new range) else None)

-- what a splice of the text leaves of a range
abbrev pub moved_range : Splice → AtomicRange → Option AtomicRange
moved_range splice range =
    moved_by splice.place (place_before splice) (place_after splice) range

-- the same for some ranges, in their order
unfoldable pub moved_ranges : List AtomicRange → Splice → List AtomicRange
moved_ranges ranges splice = filter_map (moved_range splice) ranges

-- the range starts at or before its end, and its row and columns are at most 2^48, as in any text
pub record IsMovable (range : AtomicRange) : Type 0 where
  pub ordered : range.start_col ≤ range.end_col
  pub row : range.row ≤ size_limit
  pub column : range.end_col ≤ size_limit

-- ---- facts of the ranges that are left, and of those that are dropped

-- the characters that the range covers in the line of its row
abbrev pub covered_characters : List (List ℕ) → AtomicRange → List ℕ
covered_characters rows range =
    take (range.end_col - range.start_col) (drop range.start_col (line_of rows range.row))

-- the new range is within a line of the new text, and covers the characters of the old one
pub record CoversTheSame (text new_text : List Symbol) (old new : AtomicRange) : Type 0 where
  pub in_line : IsRangeOfLine (lines new_text) new
  pub same : covered_characters (lines new_text) new ≡ covered_characters (lines text) old

-- a splice between two positions disturbs a range: it inserts strictly inside, or removes some of
-- it
abbrev pub DisturbsBy : Bool → Place → Place → AtomicRange → Type 0
DisturbsBy true place to range = IsInside place range
DisturbsBy false place to range = Overlaps place to range

abbrev pub Disturbs : Splice → AtomicRange → Type 0
Disturbs splice range =
    DisturbsBy splice.inserts splice.place (end splice.place splice.symbols) range
