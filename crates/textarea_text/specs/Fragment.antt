-- Texts with line feeds, converted to symbols and back.
use Rattle.std.specs.Prelude.{ℕ, ◌==◌, ◌&&◌, Bool, false, List, [], ◌∷◌, ◌++◌, if◌then◌else◌}
use Rattle.textarea_text.specs.Text.{Symbol, Character, Break}

-- whether the first character is a line feed, 10
abbrev pub begins_with_line_feed : List ℕ → Bool
begins_with_line_feed [] = false
begins_with_line_feed (c ∷ cs) = c == 10

-- the symbols for a character, given the characters after it: a break for a line feed, none for a
-- carriage return, 13, directly before a line feed, and else the character
abbrev pub symbols_for : ℕ → List ℕ → List Symbol
symbols_for c after =
    if c == 10 then Break ∷ []
    else (if c == 13 && begins_with_line_feed after then [] else Character c ∷ [])

-- the symbols of a text with line feeds: each line feed is a break, a carriage return directly
-- before one is dropped, and every other character stays
abbrev pub fragment_symbols : List ℕ → List Symbol
fragment_symbols [] = []
fragment_symbols (c ∷ cs) = symbols_for c cs ++ fragment_symbols cs

-- the line feed or character for a character, given whether a carriage return is directly before
-- it: a line feed for a carriage return, and none for a line feed directly after one
abbrev pub unified_character : Bool → ℕ → List ℕ
unified_character returned c =
    if returned && c == 10 then [] else (if c == 13 then 10 else c) ∷ []

-- the text with a line feed for each line end, given whether a carriage return is directly before it
abbrev pub unified_after : Bool → List ℕ → List ℕ
unified_after returned [] = []
unified_after returned (c ∷ cs) = unified_character returned c ++ unified_after (c == 13) cs

-- the text with a line feed for each line end: a carriage return, a line feed, or both in this order
abbrev pub unified : List ℕ → List ℕ
unified text = unified_after false text

-- the symbols of a pasted text: each line end is a break, and every other character stays
abbrev pub pasted_symbols : List ℕ → List Symbol
pasted_symbols text = fragment_symbols (unified text)

-- the symbols without the break at their end, if there is one
abbrev pub without_last_break : List Symbol → List Symbol
without_last_break [] = []
without_last_break (Break ∷ []) = []
without_last_break (symbol ∷ symbols) = symbol ∷ without_last_break symbols

-- a text as it is written, with a line feed for each break
abbrev pub fragment_text : List Symbol → List ℕ
fragment_text [] = []
fragment_text (Character c ∷ text) = c ∷ fragment_text text
fragment_text (Break ∷ text) = 10 ∷ fragment_text text
