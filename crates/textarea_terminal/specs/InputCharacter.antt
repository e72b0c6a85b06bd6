-- Characters in UTF-8 (Unicode, table 3-7), read from the front of bytes: a character and the rest of the bytes; None if more
-- bytes are needed. A maximal subpart of invalid bytes is U+FFFD.
use Rattle.std.specs.Prelude.{ℕ, ◌+◌, ◌-◌, ◌*◌, Bool, List, [], ◌∷◌, Option, Some, None, nat_lt, if◌then◌else◌}
use Rattle.std.specs.Int.{is_in_range}
use Rattle.std.specs.Str.Lossy.{second_byte_min, second_byte_max}

abbrev pub replacement : ℕ
replacement = 0xFFFD

-- whether a byte may be the second one after this first one
abbrev pub is_second : ℕ → ℕ → Bool
is_second a b = is_in_range (second_byte_min a) (second_byte_max a) b

-- whether a byte may be the third or the fourth
abbrev pub is_continuation : ℕ → Bool
is_continuation b = is_in_range 0x80 0xBF b

-- the codes of characters of two, three and four bytes
abbrev pub code_of_two : ℕ → ℕ → ℕ
code_of_two a b = (a - 0xC0) * 64 + (b - 0x80)

abbrev pub code_of_three : ℕ → ℕ → ℕ → ℕ
code_of_three a b c = (a - 0xE0) * 4096 + (b - 0x80) * 64 + (c - 0x80)

abbrev pub code_of_four : ℕ → ℕ → ℕ → ℕ → ℕ
code_of_four a b c d = (a - 0xF0) * 262144 + (b - 0x80) * 4096 + (c - 0x80) * 64 + (d - 0x80)

-- the character whose bytes begin with three
abbrev pub fourth_byte : ℕ → ℕ → ℕ → List ℕ → Option (ℕ × List ℕ)
fourth_byte a b c [] = None
fourth_byte a b c (d ∷ rest) =
    if is_continuation d then Some (code_of_four a b c d, rest) else Some (replacement, d ∷ rest)

-- with two
abbrev pub third_byte : ℕ → ℕ → List ℕ → Option (ℕ × List ℕ)
third_byte a b [] = None
third_byte a b (c ∷ rest) =
    if is_continuation c then (if nat_lt a 0xF0 then Some (code_of_three a b c, rest) else fourth_byte a b c rest)
    else Some (replacement, c ∷ rest)

-- with one
abbrev pub second_byte : ℕ → List ℕ → Option (ℕ × List ℕ)
second_byte a [] = None
second_byte a (b ∷ rest) =
    if is_second a b then (if nat_lt a 0xE0 then Some (code_of_two a b, rest) else third_byte a b rest)
    else Some (replacement, b ∷ rest)

-- the character whose first byte is a, at least 128
abbrev pub utf8_character : ℕ → List ℕ → Option (ℕ × List ℕ)
utf8_character a bytes = if is_in_range 0xC2 0xF4 a then second_byte a bytes else Some (replacement, bytes)
