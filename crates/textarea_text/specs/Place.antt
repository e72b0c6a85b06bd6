-- Positions of a text: as a row and a column, and as an index of its symbols.
use Rattle.std.specs.Prelude.{◌≡◌, ◌≢◌, ◌-◌, ◌==◌, nat_lt, ◌&&◌, ◌||◌, Bool, ℕ, zero, suc, ◌+◌, ◌<◌, ◌≤◌, List, [], ◌∷◌, ◌++◌, take, drop, length, slice_index_or}
use Rattle.textarea_text.specs.Text.{Symbol, Character, Break, characters, lines, joined}

-- a position: a row and a column, both from 0
abbrev pub Place : Type 0
Place = ℕ × ℕ

-- where symbols end that begin at the position
abbrev pub end : Place → List Symbol → Place
end place [] = place
end place (Character c ∷ symbols) = end (place.0, place.1 + 1) symbols
end place (Break ∷ symbols) = end (place.0 + 1, 0) symbols

-- the index at which the row begins
abbrev pub row_start : List Symbol → ℕ → ℕ
row_start text zero = 0
row_start [] (suc row) = 0
row_start (Character c ∷ text) (suc row) = row_start text (suc row) + 1
row_start (Break ∷ text) (suc row) = row_start text row + 1

-- a position as an index
abbrev pub index_of : List Symbol → Place → ℕ
index_of text place = row_start text place.0 + place.1

-- an index as a position
abbrev pub place_of : List Symbol → ℕ → Place
place_of text index = end (0, 0) (take index text)

-- the position is in the lines: its row exists, and its column is at most the line's length
abbrev pub IsPlaceOf : List (List ℕ) → Place → Type 0
IsPlaceOf rows place = (place.0 < length rows) × (place.1 ≤ length (slice_index_or rows place.0 []))

abbrev pub IsPlace : List Symbol → Place → Type 0
IsPlace text place = IsPlaceOf (lines text) place

-- the line of a row, or an empty line if there is no such row
abbrev pub line_of : List (List ℕ) → ℕ → List ℕ
line_of rows row = slice_index_or rows row []

abbrev pub last_row : List (List ℕ) → ℕ
last_row rows = length rows - 1

-- the position after the last character of a row's line
abbrev pub line_end : List (List ℕ) → ℕ → Place
line_end rows row = (row, length (line_of rows row))

-- ---- the order of positions

-- the one position is before the other: in a row above, or in the same row at a smaller column
abbrev pub IsBefore : Place → Place → Type 0
IsBefore one other = (one.0 ≤ other.0) × (one.0 ≡ other.0 → one.1 < other.1)

-- the same as a test
abbrev pub is_before : Place → Place → Bool
is_before one other = nat_lt one.0 other.0 || ((one.0 == other.0) && nat_lt one.1 other.1)

-- the one position is before the other or the same
abbrev pub IsUpTo : Place → Place → Type 0
IsUpTo one other = (one.0 ≤ other.0) × (one.0 ≡ other.0 → one.1 ≤ other.1)

-- whether two positions are the same
abbrev pub is_same_place : Place → Place → Bool
is_same_place one other = (one.0 == other.0) && (one.1 == other.1)

-- the text with the symbols inserted at the position
abbrev pub inserted : List Symbol → Place → List Symbol → List Symbol
inserted text place symbols = take (index_of text place) text ++ (symbols ++ drop (index_of text place) text)

-- the text with `length symbols` symbols removed at the position
abbrev pub removed : List Symbol → Place → List Symbol → List Symbol
removed text place symbols = take (index_of text place) text ++ drop (index_of text place + length symbols) text

-- the symbols are in the text at the position
abbrev pub OccursAt : List Symbol → Place → List Symbol → Type 0
OccursAt text place symbols = take (length symbols) (drop (index_of text place) text) ≡ symbols

-- the text with the symbols instead of those from the start to the end
abbrev pub changed : List Symbol → Place → Place → List Symbol → List Symbol
changed text start to symbols = take (index_of text start) text ++ (symbols ++ drop (index_of text to) text)

-- the new lines hold the start's line before it, the symbols, and the end's line after it
abbrev pub ReplacesRows : List (List ℕ) → Place → Place → List Symbol → List (List ℕ) → Type 0
ReplacesRows rows start to symbols new =
    (0 < length new)
    × (joined new ≡ characters (take start.1 (slice_index_or rows start.0 [])) ++ (symbols ++ characters (drop to.1 (slice_index_or rows to.0 []))))

-- the symbol is directly before the position and begins at the start: the position is not the start
-- of the text, and the index before it is the start's
pub record IsSymbolBefore (text : List Symbol) (place start : Place) (symbol : Symbol) : Type 0 where
  pub index : index_of text place ≢ 0
  pub start_is : place_of text (index_of text place - 1) ≡ start
  pub symbol_is : take 1 (drop (index_of text place - 1) text) ≡ symbol ∷ []
  pub is_place : IsPlace text start
  pub occurs : OccursAt text start (symbol ∷ [])
  pub ends : place ≡ end start (symbol ∷ [])
