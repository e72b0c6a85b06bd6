-- When a journal is written: at a pause of the events, and at the latest some time after the first.
use Rattle.std.specs.Prelude.{◌||◌, ◌-◌, ℕ, Bool, false, nat_le, Option, None, Some}

-- the times in nanoseconds of the first event since the last write, and of the last event, if one came
abbrev pub noted : Option (ℕ × ℕ) → ℕ → Option (ℕ × ℕ)
noted None now = Some (now, now)
noted (Some times) now = Some (times.0, now)

-- a write is due a second after the last event, or five seconds after the first one
abbrev pub is_due : Option (ℕ × ℕ) → ℕ → Bool
is_due None now = false
is_due (Some times) now = nat_le 1000000000 (now - times.1) || nat_le 5000000000 (now - times.0)
