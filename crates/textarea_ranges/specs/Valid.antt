-- Which lists of atomic ranges are valid for some lines.
use Rattle.std.specs.Prelude.{◌≡◌, ℕ, ◌<◌, ◌≤◌, ◌⊎◌, List, length, All, AllPairs}
use Rattle.textarea_text.specs.Place.{line_of}
use Rattle.textarea_data.specs.declared.range.AtomicRange.{AtomicRange}

-- the range is within a line, with at least one character: its row exists, it starts before its
-- end, and ends at or before its line's end
abbrev pub IsRangeOfLine : List (List ℕ) → AtomicRange → Type 0
IsRangeOfLine rows range =
    (range.row < length rows) × (range.start_col < range.end_col)
    × (range.end_col ≤ length (line_of rows range.row))

-- no character is in both: of two ranges in one row, one ends at or before the other's start
abbrev pub AreDisjoint : AtomicRange → AtomicRange → Type 0
AreDisjoint one other =
    one.row ≡ other.row → (one.end_col ≤ other.start_col) ⊎ (other.end_col ≤ one.start_col)

-- each range of the list is within a line, and no two of them share a character
pub record AreValid (rows : List (List ℕ)) (ranges : List AtomicRange) : Type 0 where
  pub components : All (IsRangeOfLine rows) ranges
  pub disjoint : AllPairs AreDisjoint ranges
