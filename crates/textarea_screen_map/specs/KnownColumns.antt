-- Columns of a line whose byte offsets are known.
use Rattle.std.specs.Prelude.{◌≡◌, ℕ, ◌≤◌, List, length, take, encode_utf8_all}
use Rattle.std.specs.List.{AllByRecursion}

-- a column of a line, given by its characters, with its byte offset
abbrev pub IsColumnAtByte : List ℕ → ℕ × ℕ → Type 0
IsColumnAtByte line known = (known.0 ≤ length line) × (known.1 ≡ length (encode_utf8_all (take known.0 line)))

-- each mark is a column of the line with its byte offset
abbrev pub AreColumnsAtBytes : List ℕ → List (ℕ × ℕ) → Type 0
AreColumnsAtBytes line marks = AllByRecursion (IsColumnAtByte line) marks
