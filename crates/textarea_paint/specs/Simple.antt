-- Characters whose grapheme clusters are known by their numbers.
use Rattle.std.specs.Prelude.{ℕ, Bool, true, ◌||◌, nat_lt, List, [], ◌∷◌, if◌then◌else◌}
use Rattle.std.specs.Int.{is_in_range}
use Rattle.ucd_table.specs.Rows.{Range, in_ranges}

-- Characters to which no rule applies that joins two of them: letters and signs of Latin, Greek,
-- Cyrillic, Hebrew, Arabic and Georgian, punctuation and symbols, those of East Asia, and emoji.
-- There are others.
abbrev pub early_ranges : List Range
early_ranges =
    (0x20, 0x7E) ∷ (0xA0, 0xAC) ∷ (0xAE, 0x2FF) ∷ (0x370, 0x482) ∷ (0x48A, 0x590) ∷ (0x5D0, 0x5EA) ∷ (0x620, 0x64A) ∷ (0x671, 0x6D3) ∷ (0x10A0, 0x10FF)
    ∷ (0x1E00, 0x200A) ∷ (0x2010, 0x2027) ∷ (0x2070, 0x20CF) ∷ (0x2100, 0x2CEE) ∷ []

abbrev pub late_ranges : List Range
late_ranges = (0x3000, 0x3029) ∷ (0x3030, 0x3098) ∷ (0x309B, 0xA66E) ∷ (0xAC00, 0xD7A3) ∷ (0xFF00, 0xFF9D) ∷ (0x1F000, 0x1F1E5) ∷ (0x1F200, 0x1F3FA) ∷ (0x1F400, 0x3FFFF) ∷ []

abbrev pub is_simple : ℕ → Bool
is_simple c = if nat_lt c 0x3000 then in_ranges early_ranges c else in_ranges late_ranges c

-- a regional indicator: two of them make a flag
abbrev pub is_flag_half : ℕ → Bool
is_flag_half c = is_in_range 0x1F1E6 0x1F1FF c

-- after a simple character or a flag, a cluster begins with these characters, or they are none
abbrev pub begins_apart : List ℕ → Bool
begins_apart [] = true
begins_apart (c ∷ cs) = is_simple c || is_flag_half c
