-- Which lines a splice fits, what it makes of them, and which splices never run out of memory.
use Rattle.std.specs.Prelude.{◌≡◌, false, List, String}
use Rattle.textarea_text.specs.Text.{lines_of, text_of}
use Rattle.textarea_text.specs.Place.{IsPlaceOf}
use Rattle.textarea_text.specs.Splice.{Splice, Fits, applied}
use Rattle.textarea_text.specs.Touched.{breaks_of}

-- the splice fits the lines: its row is one of them (so nothing fits without lines), and it fits
-- their text
pub record FitsLines {Z : Type 0} (strings : List (String Z)) (splice : Splice) : Type 0 where
  pub is_place : IsPlaceOf (lines_of strings) splice.place
  pub fits : Fits (text_of strings) splice

-- the splice turns the first lines into the second ones: their text is the one after it
abbrev pub MakesLines : {Z : Type 0} → Splice → List (String Z) → List (String Z) → Type 0
MakesLines splice old new = text_of new ≡ applied (text_of old) splice

-- the splice removes symbols within one line
abbrev pub IsRemovalInLine : Splice → Type 0
IsRemovalInLine splice = (splice.inserts ≡ false) × (breaks_of splice.symbols ≡ 0)
