-- Values by their numbers.
use Rattle.std.specs.Prelude.{ℕ, ◌==◌, if◌then◌else◌, List, [], ◌∷◌, Option, Some, None}

-- the value of a number in a table, if the table has the number
abbrev pub value_of_number : {A : Type 0} → List (ℕ × A) → ℕ → Option A
value_of_number [] number = None
value_of_number (row ∷ rows) number = if number == row.0 then Some row.1 else value_of_number rows number
