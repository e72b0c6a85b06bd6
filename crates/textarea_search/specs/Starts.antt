-- The positions at which matches start in a text, and the one that a search finds.
use Rattle.std.specs.Prelude.{◌≡◌, ℕ, ◌+◌, ◌-◌, ◌<◌, ◌≤◌, Bool, ◌==◌, ◌&&◌, ◌||◌, if◌then◌else◌, nat_lt, List, [], ◌∷◌, ◌++◌, map, length, find, reverse, slice_get, slice_index_or, Option, None, Some}
use Rattle.std.specs.Prelude.{String, string_bytes, IfOk, IfSome, IsNone, IsOk, Result}
use Rattle.std.specs.declared.alloc.AllocError.{AllocError}
use Rattle.std.specs.Option.{option_or}
use Rattle.std.specs.Str.{chars}
use Rattle.std.proofs.Common.{Global}
use Rattle.regex.specs.Patterns.{Re}
use Rattle.textarea_search.specs.Matches.{match_columns}
use Rattle.textarea_search.specs.Spans.{columns_in}
use Rattle.textarea_search.specs.declared.search.direction.Direction.{Direction}
use Rattle.textarea_search.specs.declared.search.direction.Direction.TheVariants.{Forward, Back}

-- the positions (row, column) at which the matches of these lines start, in the order of the text
abbrev pub starts_from : (List ℕ → List ℕ) → ℕ → List (List ℕ) → List (ℕ × ℕ)
starts_from columns row [] = []
starts_from columns row (line ∷ lines) =
    map (λ column. (row, column)) (columns line) ++ starts_from columns (row + 1) lines

-- the bytes of a line
abbrev pub bytes_at : List (String Global) → ℕ → List ℕ
bytes_at lines row = slice_index_or (map string_bytes lines) row []

-- the match starts of a pattern's tree in these lines, the first of which has the given row
abbrev pub starts_by : Re → ℕ → List (String Global) → List (ℕ × ℕ)
starts_by tree row lines = starts_from (columns_in tree) row (map string_bytes lines)

-- the match starts of a pattern in a text, and none without a pattern
abbrev pub starts_of : Option (List ℕ) → List (String Global) → List (ℕ × ℕ)
starts_of None lines = []
starts_of (Some pattern) lines = starts_from (match_columns pattern) 0 (map string_bytes lines)

-- the tree's matches start where those of the pattern do
abbrev pub IsTreeOf : List ℕ → Re → Type 0
IsTreeOf pattern tree = (lines : List (String Global)) → starts_by tree 0 lines ≡ starts_of (Some pattern) lines

-- whether the number is past the mark or, with `at_mark`, at it
abbrev pub is_past : ℕ → Bool → ℕ → Bool
is_past mark at_mark number = nat_lt mark number || (at_mark && (number == mark))

-- whether the column is past the cursor, or at it, in the search's direction
abbrev pub is_ahead_in_line : Direction → ℕ → Bool → ℕ → Bool
is_ahead_in_line Forward cursor at_cursor column = is_past cursor at_cursor column
is_ahead_in_line Back cursor at_cursor column = is_past column at_cursor cursor

-- the list in the order of the search
abbrev pub along : {A : Type 0} → Direction → List A → List A
along Forward xs = xs
along Back xs = reverse xs

-- the end of the offsets that a search back from a byte may find
abbrev pub last_of : ℕ → Bool → ℕ
last_of byte at = if at then byte + 1 else byte

-- the column is that of the first match of a pattern in the search's direction, if there is one
pub record IsFirstAhead (pattern line : List ℕ) (direction : Direction) (cursor : ℕ) (at_cursor : Bool) (start : Option ℕ) : Type 0 where
  pub found : start ≡ find (is_ahead_in_line direction cursor at_cursor) (along direction (match_columns pattern line))
  pub within : IfSome start (λ column. column ≤ length (chars line))

-- whether the position is after the mark in the text or, with `at_mark`, at it
abbrev pub is_later : ℕ × ℕ → Bool → ℕ × ℕ → Bool
is_later mark at_mark place =
    nat_lt mark.0 place.0 || ((place.0 == mark.0) && is_past mark.1 at_mark place.1)

-- whether the position is after the cursor, or at it, in the search's direction
abbrev pub is_ahead : Direction → ℕ × ℕ → Bool → ℕ × ℕ → Bool
is_ahead Forward cursor at_cursor place = is_later cursor at_cursor place
is_ahead Back cursor at_cursor place = is_later place at_cursor cursor

-- the first element that passes or, if none does, the first of all
abbrev pub find_or_first : {A : Type 0} → (A → Bool) → List A → Option A
find_or_first test xs = option_or (find test xs) (slice_get xs 0)

-- the position that a search finds: the first start in its direction or, if there is none, the
-- first one from the text's other end
abbrev pub found_start : Direction → List (ℕ × ℕ) → ℕ × ℕ → Bool → Option (ℕ × ℕ)
found_start direction starts cursor at_cursor =
    find_or_first (is_ahead direction cursor at_cursor) (along direction starts)

-- the position is in these lines, whose first has the given row, and at most at the line's end
abbrev pub IsPlaceFrom : ℕ → List (String Global) → ℕ × ℕ → Type 0
IsPlaceFrom row lines place =
    (row ≤ place.0) × (place.0 < row + length lines)
    × (place.1 ≤ length (slice_index_or (map (λ line. chars (string_bytes line)) lines) (place.0 - row) []))

-- the position is in the text
abbrev pub IsPlaceIn : List (String Global) → ℕ × ℕ → Type 0
IsPlaceIn lines place =
    (place.0 < length lines)
    × (place.1 ≤ length (slice_index_or (map (λ line. chars (string_bytes line)) lines) place.0 []))

-- the result of a search from a cursor: the position found, which is in the text; a search without
-- a pattern never runs out of memory
pub record IsFound (direction : Direction) (pattern : Option (List ℕ)) (lines : List (String Global)) (cursor : ℕ × ℕ) (at_cursor : Bool)
    (result : Result (Option (ℕ × ℕ)) AllocError) : Type 0 where
  pub found : IfOk result (λ place. place ≡ found_start direction (starts_of pattern lines) cursor at_cursor)
  pub within : IfOk result (λ place. IfSome place (IsPlaceIn lines))
  pub no_pattern : IsNone pattern → IsOk result
