-- The size limit of a text.
use Rattle.std.specs.Prelude.{ℕ, ◌^◌}

-- the largest sum of bytes and lines that a text may have
abbrev pub size_limit : ℕ
size_limit = 2 ^ 48
