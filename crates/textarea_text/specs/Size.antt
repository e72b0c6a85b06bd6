-- The size of lines, and of the text in them.
use Rattle.std.specs.Prelude.{ℕ, ◌+◌, List, [], ◌∷◌, String, string_len, length, encode_utf8}
use Rattle.textarea_text.specs.Text.{Symbol, Character, Break}

-- the bytes of the lines plus their number
abbrev pub size_of : {Z : Type 0} → List (String Z) → ℕ
size_of [] = 0
size_of (line ∷ lines) = string_len line + 1 + size_of lines

-- the bytes of a text: those of its characters in UTF-8, and one for each break
abbrev pub weight : List Symbol → ℕ
weight [] = 0
weight (Character c ∷ text) = length (encode_utf8 c) + weight text
weight (Break ∷ text) = 1 + weight text
