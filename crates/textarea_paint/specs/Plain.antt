-- Texts that begin with printable ASCII.
use Rattle.std.specs.Prelude.{ℕ, zero, suc, ◌≤◌, ◌<◌, Bool, false, ◌&&◌, nat_le, nat_lt, List, [], ◌∷◌, map, if◌then◌else◌}

abbrev pub IsPrintable : ℕ → Type 0
IsPrintable byte = (32 ≤ byte) × (byte < 127)

abbrev pub is_printable : ℕ → Bool
is_printable byte = nat_le 32 byte && nat_lt byte 127

-- the first two characters are printable ASCII, or the only one is
abbrev pub begins_plain : List ℕ → Bool
begins_plain [] = false
begins_plain (only ∷ []) = is_printable only
begins_plain (first ∷ second ∷ after) = is_printable first && is_printable second

-- the number of characters, at most `most`, that the text can lose one after the other while it
-- begins so
abbrev pub plain_count : ℕ → List ℕ → ℕ
plain_count zero text = 0
plain_count (suc most) [] = 0
plain_count (suc most) (byte ∷ text) = if begins_plain (byte ∷ text) then suc (plain_count most text) else 0

-- each byte as a text of its own
abbrev pub singles : List ℕ → List (List ℕ)
singles text = map (λ byte. byte ∷ []) text
