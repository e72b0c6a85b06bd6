-- The parameters of a control sequence (ECMA-48, 5.4): decimal numbers between semicolons, with parts between colons.
use Rattle.std.specs.Prelude.{ℕ, ◌+◌, ◌-◌, ◌*◌, Bool, List, [], ◌∷◌, Option, Some, None, ◌==◌, ◌&&◌, min, if◌then◌else◌}
use Rattle.std.specs.Int.{is_in_range}
use Rattle.textarea_terminal.specs.declared.input.parameter.Parameters.{Parameters}

abbrev pub is_digit : ℕ → Bool
is_digit b = is_in_range 48 57 b

-- the digit at the front
unfoldable pub digit_at : List ℕ → Option (ℕ × List ℕ)
digit_at [] = None
digit_at (b ∷ bytes) = if is_digit b then Some (b - 48, bytes) else None

-- the greatest number; a greater one counts as this, which is no character
abbrev pub number_limit : ℕ
number_limit = 2097151

-- a size or a position, at most 65,535
abbrev pub clamped_to_u16 : ℕ → ℕ
clamped_to_u16 n = min 65535 n

-- a number continued by the digits at the front, and the rest of the bytes
unfoldable pub number_from : ℕ → List ℕ → ℕ × List ℕ
number_from n [] = (n, [])
number_from n (b ∷ bytes) = if is_digit b then number_from (min number_limit (10 * n + (b - 48))) bytes else (n, b ∷ bytes)

-- the number at the front, 0 if there is no digit, and the rest of the bytes
abbrev pub number_at : List ℕ → ℕ × List ℕ
number_at bytes = number_from 0 bytes

-- the number after a separator at the front, 0 if there is none, and the rest of the bytes
unfoldable pub number_after : ℕ → List ℕ → ℕ × List ℕ
number_after separator [] = (0, [])
number_after separator (b ∷ bytes) = if b == separator then number_at bytes else (0, b ∷ bytes)

-- How many parameters there are, by what is after the first, the second and the third: 4 if there are more than three, and 0 if
-- something else is there.
unfoldable pub count_of : List ℕ → List ℕ → List ℕ → ℕ
count_of [] second third = 1
count_of (b ∷ first) [] third = if b == 59 then 2 else 0
count_of (b ∷ first) (c ∷ second) [] = if b == 59 && c == 59 then 3 else 0
count_of (b ∷ first) (c ∷ second) (d ∷ third) = if b == 59 && c == 59 && d == 59 then 4 else 0

-- the parameters, by what is read after each number; xs and ys are the bytes after the first and the second one
abbrev pub after_third : ℕ → ℕ → ℕ → ℕ → List ℕ → List ℕ → ℕ × List ℕ → Parameters
after_third first shifted second kind xs ys (third, bytes) =
    record { count = count_of xs ys bytes; first = first; shifted = shifted; second = second; kind = kind; third = third }

abbrev pub after_kind : ℕ → ℕ → ℕ → List ℕ → ℕ × List ℕ → Parameters
after_kind first shifted second xs (kind, bytes) = after_third first shifted second kind xs bytes (number_after 59 bytes)

abbrev pub after_second : ℕ → ℕ → List ℕ → ℕ × List ℕ → Parameters
after_second first shifted xs (second, bytes) = after_kind first shifted second xs (number_after 58 bytes)

abbrev pub after_base : ℕ → ℕ → ℕ × List ℕ → Parameters
after_base first shifted (base, bytes) = after_second first shifted bytes (number_after 59 bytes)

abbrev pub after_shifted : ℕ → ℕ × List ℕ → Parameters
after_shifted first (shifted, bytes) = after_base first shifted (number_after 58 bytes)

abbrev pub after_first : ℕ × List ℕ → Parameters
after_first (first, bytes) = after_shifted first (number_after 58 bytes)

-- The parameters of a sequence: three numbers; the first one's second part, which is a key's character with Shift; and the second
-- one's second part, which is what a key did (kitty, "CSI u").
unfoldable pub parameters_of : List ℕ → Parameters
parameters_of bytes = after_first (number_at bytes)
