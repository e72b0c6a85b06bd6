-- Whether a terminal is still there, by the reads that got nothing.
use Rattle.std.specs.Prelude.{ℕ, Bool, ◌+◌, ◌||◌, nat_lt, nat_le, min, if◌then◌else◌}

-- a read got bytes, or waited for some: for at least 5 milliseconds
abbrev pub is_answered : ℕ → ℕ → Bool
is_answered count nanoseconds = nat_lt 0 count || nat_le 5000000 nanoseconds

-- the number of reads, one after another, that were not answered, after one more read
abbrev pub unanswered_after : ℕ → ℕ → ℕ → ℕ
unanswered_after before count nanoseconds = if is_answered count nanoseconds then 0 else min (before + 1) 4294967295
