-- The lines that a splice changes.
use Rattle.std.specs.Prelude.{◌≡◌, ◌≤◌, ℕ, ◌+◌, cond, List, [], ◌∷◌, String, length, vec_len}
use Rattle.std.specs.declared.alloc.Global.{Global}
use Rattle.textarea_text.specs.Text.{Symbol, Character, Break, text_of}
use Rattle.textarea_text.specs.Place.{Place, changed}
use Rattle.textarea_util.specs.Replaced.{replaced}
use Rattle.textarea_text.specs.Splice.{Splice, applied}
use Rattle.textarea_text.specs.declared.rows.Replacement.{Replacement}

-- the number of breaks among the symbols
abbrev pub breaks_of : List Symbol → ℕ
breaks_of [] = 0
breaks_of (Character c ∷ symbols) = breaks_of symbols
breaks_of (Break ∷ symbols) = breaks_of symbols + 1

-- The number of lines that are replaced, from the splice's row on: one for an insertion, and for a
-- removal those from the row where the symbols begin to the one where they end.
abbrev pub replaced_line_count : Splice → ℕ
replaced_line_count splice = cond splice.inserts 1 (breaks_of splice.symbols + 1)

-- the number of lines that replace them
abbrev pub new_line_count : Splice → ℕ
new_line_count splice = cond splice.inserts (breaks_of splice.symbols + 1) 1

-- the replacement puts the symbols instead of the text between two positions of these lines
pub record ReplacesBetween (lines : List (String Global)) (start to : Place) (symbols : List Symbol) (replacement : Replacement) : Type 0 where
  pub row : replacement.row ≡ start.0
  pub removed_lines : replacement.row + replacement.count ≡ to.0 + 1
  pub coming : vec_len replacement.lines ≡ breaks_of symbols + 1
  pub within : replacement.row + replacement.count ≤ length lines
  pub text : text_of (replaced lines replacement.row replacement.count replacement.lines.items) ≡ changed (text_of lines) start to symbols

-- the replacement makes the splice on these lines: it replaces just the lines that the splice
-- changes, and the text is then the one after the splice
pub record IsReplacementFor (lines : List (String Global)) (splice : Splice) (replacement : Replacement) : Type 0 where
  pub row : replacement.row ≡ splice.place.0
  pub removed_lines : replacement.count ≡ replaced_line_count splice
  pub coming : vec_len replacement.lines ≡ new_line_count splice
  pub within : replacement.row + replacement.count ≤ length lines
  pub text : text_of (replaced lines replacement.row replacement.count replacement.lines.items) ≡ applied (text_of lines) splice
