-- How the bytes of a file that isn't UTF-8 are shown.
use Rattle.std.specs.Prelude.{◌≡◌, ◌+◌, ◌/◌, ◌%◌, ℕ, List, [], ◌∷◌, ◌++◌, if◌then◌else◌, nat_lt}
use Rattle.std.specs.List.{flat_map}
use Rattle.std.specs.Str.{IsUtf8, StartsWithNoChar}

-- the code of a capital hexadecimal digit
abbrev pub hex_digit : ℕ → ℕ
hex_digit value = if nat_lt value 10 then 48 + value else 55 + value

-- `\x`, and the two digits of a byte
abbrev pub escaped_byte : ℕ → List ℕ
escaped_byte byte = 92 ∷ 120 ∷ hex_digit (byte / 16) ∷ hex_digit (byte % 16) ∷ []

-- a part of a file: a text, or a byte that belongs to none
pub data Piece : Type 0 where
  Text : List ℕ → Piece
  Byte : ℕ → Piece

-- its bytes in the file
abbrev pub piece_bytes : Piece → List ℕ
piece_bytes (Text bytes) = bytes
piece_bytes (Byte byte) = byte ∷ []

-- the bytes of what is shown of it: the text as it is, or the escape of the byte
abbrev pub shown_piece : Piece → List ℕ
shown_piece (Text bytes) = bytes
shown_piece (Byte byte) = escaped_byte byte

-- each text is UTF-8, and no character begins at a byte that belongs to none
abbrev pub AreParted : List Piece → Type 0
AreParted [] = Unit {0}
AreParted (Text bytes ∷ pieces) = IsUtf8 bytes × AreParted pieces
AreParted (Byte byte ∷ pieces) = StartsWithNoChar (byte ∷ flat_map piece_bytes pieces) × AreParted pieces

-- the text shows the bytes
pub record ShowsBytes (bytes text : List ℕ) : Type 0 where
  pub pieces : List Piece
  pub parted : AreParted pieces
  pub of_bytes : bytes ≡ flat_map piece_bytes pieces
  pub shown : text ≡ flat_map shown_piece pieces

-- with what shows the bytes that are left, the text shows all
abbrev pub ShowsBefore : List ℕ → List ℕ → List ℕ → Type 0
ShowsBefore all left text = (more : List ℕ) → ShowsBytes left more → ShowsBytes all (text ++ more)
