-- Matches of a line that are stored with the columns at which they start.
use Rattle.std.specs.Prelude.{◌≡◌, ℕ, ◌+◌, ◌≤◌, Contains, IsCharBoundary, List, Option, None, Some, length}
use Rattle.textarea_search.specs.Columns.{column_of_byte}
use Rattle.textarea_search.specs.declared.search.listed_match.ListedMatch.{ListedMatch}

-- the match is in the line, and the column is that of its start
pub record IsMatchIn (line : List ℕ) (found : ListedMatch) : Type 0 where
  pub starts : IsCharBoundary line found.start
  pub ordered : found.start ≤ found.end
  pub inside : found.end ≤ length line
  pub column : found.column ≡ column_of_byte line found.start

-- the match is one of those with these spans
pub record IsOneOf (spans : List (ℕ × ℕ)) (line : List ℕ) (found : ListedMatch) : Type 0 where
  pub place : IsMatchIn line found
  pub listed : ∥ Contains spans (found.start, found.end) ∥₁

-- the column of this match, and 0 without one
abbrev pub column_of_match : Option ListedMatch → ℕ
column_of_match None = 0
column_of_match (Some found) = found.column

-- from where the matches after this one are listed, or all without one
abbrev pub after_match : Option ListedMatch → ℕ
after_match None = 0
after_match (Some found) = found.end + 1
