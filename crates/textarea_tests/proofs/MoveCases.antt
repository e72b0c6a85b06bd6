-- Worked cases of the definitions, each by computing.
use Rattle.std.proofs.Common.{◌≡◌, ℕ, List, [], ◌∷◌, map, refl, Option, Some, None}
use Rattle.textarea_document.specs.Prelude.{Symbol, joined, Place, class_of, target, word_end_after, word_start_before, CursorMove, Back, Head, End, Bottom, WordForward, WordEnd, WordBack, ParagraphForward, ParagraphBack, Jump}
use Rattle.textarea_data.specs.declared.cursor.CursorMove.TheVariants.{Forward}

-- each move, which needs no visual row, leads from its position to the other one, or nowhere
abbrev pub Lead : List Symbol → List (Place × CursorMove × Option Place) → Type 0
Lead text cases =
    map (λ (c : Place × CursorMove × Option Place). target text c.0 c.1) cases
    ≡ map (λ (c : Place × CursorMove × Option Place). c.2) cases

-- an `e` with a combining accent, and the line `x`
abbrev pub accented : List Symbol
accented = joined ((101 ∷ 769 ∷ []) ∷ (120 ∷ []) ∷ [])

pub accented_cases : Lead accented (
    ((0, 0), Forward, Some (0, 1)) ∷
    ((0, 1), Forward, Some (0, 2)) ∷
    ((0, 2), Forward, Some (1, 0)) ∷
    ((1, 1), Forward, None) ∷
    ((1, 0), Back, Some (0, 2)) ∷
    ((0, 0), Back, None) ∷
    ((0, 2), Head, Some (0, 0)) ∷
    ((0, 0), End, Some (0, 2)) ∷
    ((0, 2), Bottom, Some (1, 1)) ∷
    ((0, 0), Jump 0 1, Some (0, 1)) ∷
    ((0, 0), Jump 9 9, Some (1, 1)) ∷
    [])
accented_cases = refl

-- the lines `aaa bbb [[[ccc]]]`, none, and ` ddd`
abbrev pub words : List Symbol
words = joined ((97 ∷ 97 ∷ 97 ∷ 32 ∷ 98 ∷ 98 ∷ 98 ∷ 32 ∷ 91 ∷ 91 ∷ 91 ∷ 99 ∷ 99 ∷ 99 ∷ 93 ∷ 93 ∷ 93 ∷ []) ∷ [] ∷ (32 ∷ 100 ∷ 100 ∷ 100 ∷ []) ∷ [])

pub word_cases : Lead words (
    ((0, 0), WordEnd, Some (0, 2)) ∷
    ((0, 2), WordEnd, Some (0, 6)) ∷
    ((0, 6), WordEnd, Some (0, 10)) ∷
    ((0, 10), WordEnd, Some (0, 13)) ∷
    ((0, 13), WordEnd, Some (0, 16)) ∷
    ((0, 16), WordEnd, Some (2, 3)) ∷
    ((2, 3), WordEnd, Some (2, 4)) ∷
    ((0, 0), WordForward, Some (0, 4)) ∷
    ((0, 14), WordForward, Some (1, 0)) ∷
    ((2, 1), WordForward, Some (2, 4)) ∷
    ((0, 4), WordBack, Some (0, 0)) ∷
    ((2, 1), WordBack, Some (1, 0)) ∷
    [])
unfolding class_of
word_cases = refl

-- the lines `aaa`, none, `bbb`, none, `ccc` and `ddd`
abbrev pub paragraphs : List Symbol
paragraphs = joined ((97 ∷ 97 ∷ 97 ∷ []) ∷ [] ∷ (98 ∷ 98 ∷ 98 ∷ []) ∷ [] ∷ (99 ∷ 99 ∷ 99 ∷ []) ∷ (100 ∷ 100 ∷ 100 ∷ []) ∷ [])

pub paragraph_cases : Lead paragraphs (
    ((0, 0), Bottom, Some (5, 0)) ∷
    ((5, 0), ParagraphBack, Some (4, 0)) ∷
    ((4, 0), ParagraphBack, Some (2, 0)) ∷
    ((2, 0), ParagraphBack, Some (0, 0)) ∷
    ((0, 3), ParagraphBack, None) ∷
    ((0, 2), ParagraphForward, Some (2, 2)) ∷
    ((4, 3), ParagraphForward, Some (5, 3)) ∷
    [])
paragraph_cases = refl

-- the line `aaa bbb ccc`
abbrev pub three : List ℕ
three = 97 ∷ 97 ∷ 97 ∷ 32 ∷ 98 ∷ 98 ∷ 98 ∷ 32 ∷ 99 ∷ 99 ∷ 99 ∷ []

-- the removal of the word before, and of the one after
pub removed_word_cases : (word_start_before three 11 ∷ word_start_before (32 ∷ 32 ∷ 97 ∷ []) 2 ∷ word_end_after three 0 ∷ word_end_after three 8 ∷ []) ≡ 8 ∷ 0 ∷ 3 ∷ 11 ∷ []
unfolding class_of
removed_word_cases = refl
