-- A text as one flat list of symbols, and as lines.
use Rattle.std.specs.Prelude.{ℕ, List, [], ◌∷◌, ◌++◌, map, string_bytes, String, Option, Some, None}
use Rattle.std.specs.Str.{chars}

-- a symbol: a character by its code, or the break between two lines
pub data Symbol : Type 0 where
  Character : ℕ → Symbol
  Break : Symbol

-- the characters of one line as symbols
abbrev pub characters : List ℕ → List Symbol
characters [] = []
characters (c ∷ cs) = Character c ∷ characters cs

-- lines after others: each with a break before it
abbrev pub following : List (List ℕ) → List Symbol
following [] = []
following (line ∷ rest) = Break ∷ (characters line ++ following rest)

-- lines before others: each with a break after it
abbrev pub leading : List (List ℕ) → List Symbol
leading [] = []
leading (line ∷ rest) = characters line ++ (Break ∷ leading rest)

-- the lines, joined by breaks
abbrev pub joined : List (List ℕ) → List Symbol
joined [] = []
joined (line ∷ rest) = characters line ++ following rest

-- the lines with a character added in front of the first one
abbrev pub on_first : ℕ → List (List ℕ) → List (List ℕ)
on_first c [] = (c ∷ []) ∷ []
on_first c (line ∷ rest) = (c ∷ line) ∷ rest

-- the text, split at its breaks
abbrev pub lines : List Symbol → List (List ℕ)
lines [] = [] ∷ []
lines (Character c ∷ text) = on_first c (lines text)
lines (Break ∷ text) = [] ∷ lines text

-- the characters of a `String`
abbrev pub characters_of : {Z : Type 0} → String Z → List ℕ
characters_of s = chars (string_bytes s)

-- the lines in a list of `String`s
abbrev pub lines_of : {Z : Type 0} → List (String Z) → List (List ℕ)
lines_of strings = map characters_of strings

-- the text in a list of `String`s
abbrev pub text_of : {Z : Type 0} → List (String Z) → List Symbol
text_of strings = joined (lines_of strings)

-- a symbol as the code has it: a character, or none for a break
abbrev pub symbol_in : Option ℕ → Symbol
symbol_in None = Break
symbol_in (Some c) = Character c
