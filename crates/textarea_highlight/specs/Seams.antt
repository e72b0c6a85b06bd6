-- Offsets at which a row can be split so that its cells stay the same.
use Rattle.std.specs.Prelude.{◌≡◌, ℕ, ◌+◌, ◌*◌, ◌<◌, ◌≤◌, true, List, [], ◌∷◌, ◌++◌, length, get_or, take, drop, chars, encode_utf8, IsCharBoundary, IsTrue}
use Rattle.textarea_wrap.specs.Columns.{IsVisible}
use Rattle.textarea_highlight.specs.Columns.{column_of}
use Rattle.textarea_highlight.specs.Plain.{is_plain}
use Rattle.textarea_highlight.specs.declared.highlight.highlighter.RowPart.{RowPart}
use Rattle.textarea_highlight.specs.declared.highlight.seams.RowOffset.{RowOffset}
use Rattle.textarea_highlight.specs.declared.highlight.seams.Walk.{Walk}

-- this many visible characters of ASCII follow an offset
pub record AreVisible (row : List ℕ) (from count : ℕ) : Type 0 where
  pub within : from + count ≤ length row
  pub visible : (k : ℕ) → k < count → IsVisible (get_or row (from + k) 0)

-- a text whose first character is this one
abbrev pub BeginsWith : List ℕ → ℕ → Type 0
BeginsWith text c = (rest : List ℕ) × (text ≡ encode_utf8 c ++ rest)

-- a text whose first character is plain
pub record BeginsPlain (text : List ℕ) : Type 0 where
  pub first : ℕ
  pub others : List ℕ
  pub chars_are : chars text ≡ first ∷ others
  pub plain : is_plain first ≡ true

-- a text whose last character is plain
pub record EndsPlain (text : List ℕ) : Type 0 where
  pub others : List ℕ
  pub last : ℕ
  pub chars_are : chars text ≡ others ++ last ∷ []
  pub plain : is_plain last ≡ true

-- an offset between two plain characters: a boundary of grapheme clusters, and no tab begins there
pub record IsSeam (row : List ℕ) (at : ℕ) : Type 0 where
  pub inside : 0 < at
  pub within : at < length row
  pub boundary : IsCharBoundary row at
  pub left : EndsPlain (take at row)
  pub right : BeginsPlain (drop at row)

-- a character begins at the offset, or the row ends there, and it is at its column
pub record IsColumnAt (row : List ℕ) (tab_len : ℕ) (place : RowOffset) : Type 0 where
  pub boundary : IsCharBoundary row place.offset
  pub column : place.column ≡ column_of row tab_len place.offset
  pub near : place.column ≤ 255 * place.offset

-- a walk over a row is at an offset, after a plain character or not, and has seen a seam or none
pub record IsWalk (row : List ℕ) (tab_len : ℕ) (walk : Walk) : Type 0 where
  pub at : IsColumnAt row tab_len walk.at
  pub seam : IsColumnAt row tab_len walk.seam
  pub order : walk.seam.offset ≤ walk.at.offset
  pub last : IsTrue walk.after_plain → (0 < walk.at.offset) × EndsPlain (take walk.at.offset row)

-- the part begins at the row's start, or at a seam before the column `left`, and ends at the row's
-- end, or at a seam at or after the column `right`
pub record IsBetweenSeams (row : List ℕ) (tab_len left right : ℕ) (part : RowPart) : Type 0 where
  pub order : part.from ≤ part.to
  pub start_boundary : IsCharBoundary row part.from
  pub end_boundary : IsCharBoundary row part.to
  pub column : part.column ≡ column_of row tab_len part.from
  pub near : part.column ≤ 255 * part.from
  pub start : 0 < part.from → IsSeam row part.from
  pub end : part.to < length row → IsSeam row part.to
  pub at_left : 0 < part.from → part.column < left
  pub at_right : part.to < length row → right ≤ column_of row tab_len part.to
