-- Grapheme clusters that fit a width wherever in a visual row they begin.
use Rattle.std.specs.Prelude.{◌≡◌, ℕ, ◌+◌, ◌<◌, ◌≤◌, ◌==◌, true, List, [], ◌∷◌, chars, encode_utf8_all, length, if◌then◌else◌}
use Rattle.std.specs.List.{AllByRecursion}
use Rattle.unicode_segmentation.specs.Grapheme.{graphemes}
use Rattle.textarea_wrap.specs.Columns.{plain_width}
use Rattle.textarea_wrap.specs.Units.{is_blank, line_units}

-- the columns of characters, each tab counted at its full length; 9 is the tab
abbrev pub full_width : ℕ → List ℕ → ℕ
full_width tab_len [] = 0
full_width tab_len (c ∷ cs) = (if c == 9 then tab_len else plain_width c) + full_width tab_len cs

-- The cluster, given by its bytes, fits the width, with each tab counted at its full length. If it
-- is whitespace with a width, it is one character.
pub record IsFittingCluster (tab_len width : ℕ) (cluster : List ℕ) : Type 0 where
  pub fits : full_width tab_len (chars cluster) ≤ width
  pub single : is_blank cluster ≡ true → 0 < full_width tab_len (chars cluster) → length (chars cluster) ≡ 1

-- each cluster of the text fits
abbrev pub AreFittingClusters : ℕ → ℕ → List ℕ → Type 0
AreFittingClusters tab_len width text = AllByRecursion (IsFittingCluster tab_len width) (graphemes true text)

-- each cluster of the line fits, and each cluster of each of its units, taken by itself
pub record HasFittingClusters (tab_len width : ℕ) (line : List ℕ) : Type 0 where
  pub of_line : AreFittingClusters tab_len width line
  pub of_units : AllByRecursion (AreFittingClusters tab_len width) (line_units line)

-- the clusters of each of these lines fit; the lines are given by their characters
abbrev pub HaveFittingClusters : ℕ → ℕ → List (List ℕ) → Type 0
HaveFittingClusters tab_len width lines =
    AllByRecursion (λ line. HasFittingClusters tab_len width (encode_utf8_all line)) lines
