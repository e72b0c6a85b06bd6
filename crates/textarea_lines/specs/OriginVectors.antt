-- Where lines come from, as it is stored.
use Rattle.std.specs.Prelude.{ℕ, ◌+◌, ◌-◌, ◌≤◌, min, Option, Some, None, Vec, vec_capacity, vec_len}

-- there is room to replace `gone` lines from the row on by `come` lines
abbrev pub HasRoomForLines : {A : Type 0} → Option (Vec (Option ℕ) A) → ℕ → ℕ → ℕ → Type 0
HasRoomForLines None row gone come = Unit {0}
HasRoomForLines (Some origins) row gone come =
    vec_len origins + come ≤ vec_capacity origins + min gone (vec_len origins - row)
