-- What the ranges of a document cover, those that are there and those that are remembered.
use Rattle.std.specs.Prelude.{ℕ, List, [], ◌∷◌, ◌++◌, Contains, map}
use Rattle.textarea_text.specs.Text.{Symbol, lines}
use Rattle.textarea_data.specs.declared.range.AtomicRange.{AtomicRange}
use Rattle.textarea_ranges.specs.Moved.{covered_characters}
use Rattle.textarea_document.specs.DocumentState.{DocumentState}
use Rattle.textarea_document.specs.PastRanges.{texts_before}

-- the characters that each range covers in the text
abbrev pub covered_in : List Symbol → List AtomicRange → List (List ℕ)
covered_in text ranges = map (covered_characters (lines text)) ranges

-- those that each range of each list covers in its text
abbrev pub covered_before : List (List Symbol) → List (List AtomicRange) → List (List ℕ)
covered_before texts [] = []
covered_before [] (ranges ∷ before) = []
covered_before (text ∷ texts) (ranges ∷ before) = covered_in text ranges ++ covered_before texts before

-- what the remembered ranges cover in the texts before the edits
abbrev pub covered_past : DocumentState → List (List ℕ)
covered_past document =
    covered_before (texts_before document.text document.log.done document.log.undone) document.past_ranges.before

abbrev pub covered : DocumentState → List (List ℕ)
covered document = covered_in document.text document.ranges ++ covered_past document

-- what a range of the new document covers, one that is there or is remembered, a range of the old
-- one does
abbrev pub CoversNoMore : DocumentState → DocumentState → Type 0
CoversNoMore old new = (characters : List ℕ) → Contains (covered new) characters → Contains (covered old) characters
