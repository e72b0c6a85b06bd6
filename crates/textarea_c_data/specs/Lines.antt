-- Lines, as C passes and gets them.
use Rattle.std.specs.Prelude.{ℕ, ◌≡◌, List, map, Option, MatchOption, encode_utf8_all}
use Rattle.textarea_c_data.specs.Copied.{IsCopiedOut}

-- the bytes of each line
abbrev pub encoded_lines : List (List ℕ) → List (List ℕ)
encoded_lines rows = map encode_utf8_all rows

-- the bytes of these characters are written, with their number
abbrev pub AreCharactersOut : List ℕ → List ℕ → List ℕ → ℕ → Type 0
AreCharactersOut characters old new needed = IsCopiedOut old new needed (encode_utf8_all characters)

-- the bytes of the line are written, with their number, or the status says that there is no line
abbrev pub IsLineOut : Option (List ℕ) → ℕ → List ℕ → List ℕ → ℕ → Type 0
IsLineOut line status old new needed = MatchOption line (status ≡ 1) (λ characters. (status ≡ 0) × AreCharactersOut characters old new needed)
