-- The matches of a line, listed by the syntax tree of a compiled pattern.
use Rattle.std.specs.Prelude.{◌≡◌, ◌≢◌, ℕ, ◌<◌, true, IsUtf8, List, length, map, slice_index}
use Rattle.regex_hir.specs.Re.{literal}
use Rattle.regex.specs.Patterns.{Re, span}
use Rattle.regex.specs.Search.{matches_after}
use Rattle.textarea_search.specs.Columns.{column_of_byte}
use Rattle.textarea_search.specs.Matches.{match_spans}

-- the spans of the matches after the one that ended at `after - 1`, or of all if `after` is 0
abbrev pub spans_after : Re → List ℕ → ℕ → List (ℕ × ℕ)
spans_after tree line after = map span (matches_after true tree line after)

-- the columns at which these matches start
abbrev pub columns_after : Re → List ℕ → ℕ → List ℕ
columns_after tree line after = map (λ s. column_of_byte line s.0) (spans_after tree line after)

-- the columns at which matches start
abbrev pub columns_in : Re → List ℕ → List ℕ
columns_in tree line = columns_after tree line 0

-- the tree lists the matches of this pattern for each line
abbrev pub ListsMatchesOf : List ℕ → Re → Type 0
ListsMatchesOf pattern tree = (line : List ℕ) → IsUtf8 line → spans_after tree line 0 ≡ match_spans pattern line

-- the text has a first byte, which isn't in the rest of it; so the text can't overlap itself
pub record StartsOnce (text : List ℕ) : Type 0 where
  pub some : 0 < length text
  pub once : (k : ℕ) → 0 < k → k < length text → slice_index text k ≢ slice_index text 0

-- the tree lists the matches of this text, in which each character stands for itself
abbrev pub IsNeedleOf : List ℕ → Re → Type 0
IsNeedleOf needle tree = (line : List ℕ) → IsUtf8 line → spans_after tree line 0 ≡ spans_after (literal needle) line 0
