-- Positions that are given by the number of a line and of a column, both counted from 1.
use Rattle.std.specs.Prelude.{◌≡◌, ◌≢◌, ◌⊎◌, ℕ, List, ◌∷◌, ◌++◌, Option, None, Some}
use Rattle.textarea_editor.specs.LineNumber.{IsLineNumber, row_of_line}

abbrev pub both_numbers : Option ℕ → Option ℕ → Option (ℕ × ℕ)
both_numbers (Some row) (Some column) = Some (row, column)
both_numbers row column = None

-- the row and column of the numbers of a line and a column
abbrev pub place_of_numbers : Option ℕ → Option ℕ → Option (ℕ × ℕ)
place_of_numbers line column = both_numbers (row_of_line line) (row_of_line column)

-- the word is the number of a line, whose first column is meant
pub record IsLine (word : List ℕ) (position : Option (ℕ × ℕ)) : Type 0 where
  pub line : Option ℕ
  pub no_comma : (front back : List ℕ) → word ≢ front ++ 44 ∷ back
  pub line_is : IsLineNumber word line
  pub position_is : position ≡ place_of_numbers line (Some 1)

-- the word is the number of a line, a comma, which is 44, and the number of a column
pub record IsLineAndColumn (word : List ℕ) (position : Option (ℕ × ℕ)) : Type 0 where
  pub front : List ℕ
  pub back : List ℕ
  pub word_is : word ≡ front ++ 44 ∷ back
  pub line : Option ℕ
  pub line_is : IsLineNumber front line
  pub column : Option ℕ
  pub column_is : IsLineNumber back column
  pub position_is : position ≡ place_of_numbers line column

abbrev pub IsPosition : List ℕ → Option (ℕ × ℕ) → Type 0
IsPosition word position = IsLine word position ⊎ IsLineAndColumn word position
