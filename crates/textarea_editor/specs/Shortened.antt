-- Names that are shortened in their middle.
use Rattle.std.specs.Prelude.{ℕ, ◌-◌, ◌/◌, ◌==◌, nat_le, nat_lt, min, List, [], ◌∷◌, ◌++◌, length, sum_by, take, drop, if◌then◌else◌}
use Rattle.std.specs.Str.{chars}
use Rattle.textarea_wrap.specs.Columns.{plain_width}

-- the first characters, an ellipsis, 8230, and as many of the last ones, or one less
abbrev pub shortened_to : List ℕ → ℕ → List ℕ
shortened_to name others = take (others - others / 2) name ++ 8230 ∷ drop (length name - others / 2) name

-- a name in at most this number of characters
abbrev pub shortened : List ℕ → ℕ → List ℕ
shortened name room =
    if nat_le (length name) room then name else (if room == 0 then [] else shortened_to name (room - 1))

-- the columns of characters, of which a tab, as other control characters, has none
abbrev pub character_columns : List ℕ → ℕ
character_columns cs = sum_by plain_width cs

-- the columns of a text, of which at most 65,535 are counted
abbrev pub text_columns : List ℕ → ℕ
text_columns text = min 65535 (character_columns (chars text))

-- the characters of a name that fits into so many columns, or is shortened; with a character of more columns than one as if all had two
abbrev pub fitted_name : List ℕ → ℕ → List ℕ
fitted_name name room =
    if nat_le (text_columns name) room then chars name
    else shortened (chars name) (if nat_lt (length (chars name)) (text_columns name) then room / 2 else room)
