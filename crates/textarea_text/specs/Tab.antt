-- The widths of characters that count for tab stops.
use Rattle.std.specs.Prelude.{ℕ, ◌+◌, false, List, [], ◌∷◌, unwrap_or}
use Rattle.unicode_width.specs.Width.{char_width}

-- the sum of the characters' widths; one without a width in `unicode_width`, like a tab, counts 0
abbrev pub width_of : List ℕ → ℕ
width_of [] = 0
width_of (c ∷ cs) = unwrap_or (char_width false c) 0 + width_of cs
