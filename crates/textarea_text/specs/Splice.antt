-- A splice: symbols inserted or removed at a position of a text.
use Rattle.std.specs.Prelude.{◌≡◌, ◌<◌, Bool, true, false, not, cond, List, [], ◌∷◌, length}
use Rattle.textarea_text.specs.Text.{Symbol}
use Rattle.textarea_text.specs.Place.{Place, IsPlace, OccursAt, end, inserted, removed}

pub record Splice : Type 0 where
  pub place : Place
  pub symbols : List Symbol
  pub inserts : Bool

-- the splice that undoes this one
abbrev pub inverse : Splice → Splice
inverse splice = record splice { inserts = not splice.inserts }

-- the text after the splice
abbrev pub applied : List Symbol → Splice → List Symbol
applied text splice = cond splice.inserts (inserted text splice.place splice.symbols) (removed text splice.place splice.symbols)

-- when a splice fits a text: it has symbols, its position exists, and symbols that it removes are
-- in the text at that position
abbrev pub Allows : Bool → List Symbol → Place → List Symbol → Type 0
Allows true text place symbols = Unit {0}
Allows false text place symbols = OccursAt text place symbols

pub record Fits (text : List Symbol) (splice : Splice) : Type 0 where
  pub some : 0 < length splice.symbols
  pub is_place : IsPlace text splice.place
  pub allowed : Allows splice.inserts text splice.place splice.symbols

-- the cursor's position after the splice, and (`place_before`) before it
abbrev pub place_after : Splice → Place
place_after splice = cond splice.inserts (end splice.place splice.symbols) splice.place

abbrev pub place_before : Splice → Place
place_before splice = place_after (inverse splice)

-- the splices fit one after another
abbrev pub CanApply : List Symbol → List Splice → Type 0
CanApply text [] = Unit {0}
CanApply text (splice ∷ rest) = Fits text splice × CanApply (applied text splice) rest

-- the splices can be undone one after another, in the list's order
abbrev pub CanUndo : List Symbol → List Splice → Type 0
CanUndo text [] = Unit {0}
CanUndo text (splice ∷ rest) = Fits text (inverse splice) × CanUndo (applied text (inverse splice)) rest

-- the text after all the splices, in the list's order
abbrev pub applied_all : List Symbol → List Splice → List Symbol
applied_all text [] = text
applied_all text (splice ∷ rest) = applied_all (applied text splice) rest

-- the text from which these splices, one after another, lead to the present one
pub record IsTextBefore (before text : List Symbol) (changes : List Splice) : Type 0 where
  pub can : CanApply before changes
  pub leads : applied_all before changes ≡ text
