-- Marks of a line's rows: positions whose column and byte offset are both known.
use Rattle.std.specs.Prelude.{◌≡◌, ℕ, ◌+◌, ◌-◌, ◌*◌, ◌/◌, ◌<◌, ◌≤◌, List, ◌++◌, length, map, take, get_or, chars}
use Rattle.std.specs.List.{AllByRecursion, range_with_len}
use Rattle.std.specs.Str.{IsCharBoundary}
use Rattle.textarea_wrap.specs.WrapResult.{IsRowRange}

-- the position at which a row of the line begins: its column, in characters, and its byte offset
abbrev pub position_of_row : List ℕ → ℕ × ℕ → ℕ × ℕ
position_of_row line range = (length (chars (take range.0 line)), range.0)

-- the mark of this index is the position of the last of as many groups of eight rows
abbrev pub mark_at : List ℕ → List (ℕ × ℕ) → ℕ → ℕ × ℕ
mark_at line ranges index = position_of_row line (get_or ranges (8 * index + 7) (0, 0))

-- a mark for every eighth row: of less than eight rows there are none
unfoldable pub marks_of : List ℕ → List (ℕ × ℕ) → List (ℕ × ℕ)
marks_of line ranges = map (mark_at line ranges) (range_with_len 0 (length ranges / 8))

-- of this number of ranges and marks, so many are ranges
abbrev pub range_count : ℕ → ℕ
range_count count = count - count / 9

-- The items are the ranges of the line's rows and the marks before the mark `first`. `last` is the
-- last one of these, or the line's start, and no row that has a later mark begins before it.
pub record AreMarkedUntil (line : List ℕ) (ranges items : List (ℕ × ℕ)) (first : ℕ) (last : ℕ × ℕ) : Type 0 where
  pub placed : AllByRecursion (IsRowRange line) ranges
  pub ordered : (i j : ℕ) → i ≤ j → j < length ranges → (get_or ranges i (0, 0)).0 ≤ (get_or ranges j (0, 0)).0
  pub few : first ≤ length ranges / 8
  pub items_are : items ≡ ranges ++ map (mark_at line ranges) (range_with_len 0 first)
  pub column : last.0 ≡ length (chars (take last.1 line))
  pub boundary : IsCharBoundary line last.1
  pub before : (j : ℕ) → 8 * first ≤ j + 1 → j < length ranges → last.1 ≤ (get_or ranges j (0, 0)).0
