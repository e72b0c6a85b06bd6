-- The byte offset of a position in its line.
use Rattle.std.specs.Prelude.{ℕ, List, take, length, encode_utf8_all}
use Rattle.textarea_text.specs.Place.{Place, line_of}

-- the number of bytes in its line before a position
abbrev pub offset_at : List (List ℕ) → Place → ℕ
offset_at rows place = length (encode_utf8_all (take place.1 (line_of rows place.0)))
