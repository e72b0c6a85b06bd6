-- Columns of a line, in characters.
use Rattle.std.specs.Prelude.{ℕ, List, length, take}
use Rattle.std.specs.Str.{chars}

-- the number of characters of a line before a byte offset
abbrev pub column_of_byte : List ℕ → ℕ → ℕ
column_of_byte line byte = length (chars (take byte line))
