-- The visual rows of one line.
use Rattle.std.specs.Prelude.{◌≡◌, ℕ, ◌≤◌, ◌⊎◌, List, [], ◌∷◌, chars}
use Rattle.std.specs.List.{concat, AllByRecursion}
use Rattle.std.specs.Str.{IsCharBoundary}
use Rattle.textarea_wrap.specs.declared.wrap.WrapMode.{WrapMode}
use Rattle.textarea_wrap.specs.declared.wrap.WrapMode.TheVariants as mode
use Rattle.textarea_wrap.specs.Columns.{end_column}
use Rattle.textarea_wrap.specs.WrapRules.{ranges_from, IsGlyphWrapping, IsWordWrapping, HasFewestGlyphRows, HasFewestWordRows}

-- the texts of the rows of a line that is not empty
abbrev pub IsWrapping : WrapMode → ℕ → ℕ → List ℕ → List (List ℕ) → Type 0
IsWrapping mode.None tab_len width line texts = texts ≡ line ∷ []
IsWrapping mode.Word tab_len width line texts = IsWordWrapping tab_len width line texts
IsWrapping mode.Glyph tab_len width line texts = IsGlyphWrapping tab_len width line texts
IsWrapping mode.WordOrGlyph tab_len width line texts = IsWordWrapping tab_len width line texts

-- the texts of a line's rows: an empty line has one empty row
abbrev pub AreRowTexts : WrapMode → ℕ → ℕ → List ℕ → List (List ℕ) → Type 0
AreRowTexts mode tab_len width [] texts = texts ≡ [] ∷ []
AreRowTexts mode tab_len width (byte ∷ line) texts = IsWrapping mode tab_len width (byte ∷ line) texts

-- the row begins and ends between characters of the line, and is empty only in an empty line
pub record IsRowRange (line : List ℕ) (range : ℕ × ℕ) : Type 0 where
  pub ordered : range.0 ≤ range.1
  pub start : IsCharBoundary line range.0
  pub end : IsCharBoundary line range.1
  pub nonempty : range.0 ≡ range.1 → line ≡ []

-- the byte ranges are those of the line's rows
pub record IsWrapped (mode : WrapMode) (tab_len width : ℕ) (line : List ℕ) (ranges : List (ℕ × ℕ)) : Type 0 where
  pub texts : List (List ℕ)
  pub wrapped : AreRowTexts mode tab_len width line texts
  pub joined : concat texts ≡ line
  pub ranges_are : ranges ≡ ranges_from 0 texts
  pub placed : AllByRecursion (IsRowRange line) ranges

-- no other wrapping that the mode allows has fewer rows
abbrev pub HasFewestRows : WrapMode → ℕ → ℕ → List ℕ → ℕ → Type 0
HasFewestRows mode.None tab_len width line count = count ≡ 1
HasFewestRows mode.Word tab_len width line count = HasFewestWordRows tab_len width line count
HasFewestRows mode.Glyph tab_len width line count = HasFewestGlyphRows tab_len width line count
HasFewestRows mode.WordOrGlyph tab_len width line count = HasFewestWordRows tab_len width line count

-- the line is not wrapped, or is no wider than the width
abbrev pub TakesOneRow : WrapMode → ℕ → ℕ → List ℕ → Type 0
TakesOneRow kind tab_len width line = (kind ≡ mode.None) ⊎ (end_column tab_len 0 (chars line) ≤ width)
