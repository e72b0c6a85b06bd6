-- Two bytes of a text, and their places in it.
use Rattle.std.specs.Prelude.{◌≡◌, ◌+◌, ◌<◌, ℕ, List, length, max, slice_index}
use Rattle.textarea_search.specs.declared.byte_pair.BytePair.{BytePair}

-- how far after the start of a text the later byte is
abbrev pub reach_of : BytePair → ℕ
reach_of pair = max pair.first pair.second

-- the text has the bytes at their places
pub record IsPairOf (pair : BytePair) (text : List ℕ) : Type 0 where
  pub first : pair.first < length text
  pub second : pair.second < length text
  pub is_first : pair.first_byte ≡ slice_index text pair.first
  pub is_second : pair.second_byte ≡ slice_index text pair.second

-- the line has both bytes where a text from index k on would have them
pub record HasPair (pair : BytePair) (line : List ℕ) (k : ℕ) : Type 0 where
  pub first : slice_index line (k + pair.first) ≡ pair.first_byte
  pub second : slice_index line (k + pair.second) ≡ pair.second_byte
