-- The number of a line, as a text.
use Rattle.std.specs.Prelude.{◌≡◌, ℕ, ◌<◌, ◌-◌, ◌^◌, nat_lt, List, Option, None, Some, if◌then◌else◌}
use Rattle.std.specs.Str.Parse.{IsNumeral, digits_value, without_leading_plus}

-- the text is a decimal number of 64 bits; a plus may be in front
pub record IsNumber (text : List ℕ) : Type 0 where
  pub digits : IsNumeral 10 (without_leading_plus text)
  pub limit : digits_value 10 (without_leading_plus text) < 2 ^ 64

-- the number that the text is, if it is one
abbrev pub IsLineNumber : List ℕ → Option ℕ → Type 0
IsLineNumber text None = ¬ IsNumber text
IsLineNumber text (Some number) = IsNumber text × (number ≡ digits_value 10 (without_leading_plus text))

-- the row of a line's number, if there is such a line: lines count from 1, rows from 0
abbrev pub row_of_line : Option ℕ → Option ℕ
row_of_line None = None
row_of_line (Some number) = if nat_lt 0 number then Some (number - 1) else None
