-- How much of an area a block takes at one side.
use Rattle.std.specs.Prelude.{ℕ, ◌+◌, Bool, if◌then◌else◌}

-- one row or column for a border or a title, and the padding
abbrev pub inset_of : Bool → ℕ → ℕ
inset_of has_border padding = (if has_border then 1 else 0) + padding
