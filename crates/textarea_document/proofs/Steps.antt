-- One symbol on from a position of some lines, and one back.
use Rattle.std.proofs.Common.{◌≡◌, ◌+◌, ◌-◌, ◌≢◌, ◌<◌, List, [], ◌∷◌, get_or, refl, arith, Some, String}
use Rattle.std.proofs.lemmas.Bool.Decides.{nat_tests}
use Rattle.std.proofs.lemmas.Grind.{common_steps}
use Rattle.std.proofs.lemmas.List.{drop_more}
use Rattle.textarea_document.specs.Prelude.{Symbol, Character, Break, lines_of, text_of, Place, IsPlace, IsPlaceOf, IsSymbolBefore, end, line_end, IsSymbolAfter, next_place, previous_place}
use Rattle.textarea_text.proofs.TextPlaces.{index_within, is_before, place_of-index}
use Rattle.textarea_text.proofs.StringRows.{occurs_until}
use Rattle.textarea_text.proofs.Befores.{break_occurs, character_occurs, pair_is, text_place}

-- the end of the symbol after a position
pub next_place-after : (text : List Symbol) (place to : Place) (symbol : Symbol) → IsPlace text place → IsSymbolAfter text place to symbol → (Some to ≡ next_place text place) × IsPlace text to
next_place-after text place to symbol h after =
    let until = occurs_until text place (symbol ∷ []) h after.symbol_is in
    let next = end place (symbol ∷ []) in
    rw after.ends (grind (arith, common_steps, nat_tests, until.1, place_of-index text next until.0, index_within text next until.0), until.0)

-- the start of the symbol before one
previous_place-before : (text : List Symbol) (place previous : Place) (symbol : Symbol) → IsSymbolBefore text place previous symbol → Some previous ≡ previous_place text place
previous_place-before text place previous symbol before = grind (arith, common_steps, nat_tests)

-- before a column there is a character, and before a line's start the end of the line above
pub previous_column : {Z : Type 0} (items : List (String Z)) (place : Place) → IsPlaceOf (lines_of items) place → 0 < place.1 → Some (place.0, place.1 - 1) ≡ previous_place (text_of items) place
previous_column items place h some =
    let rows = lines_of items in
    let column = place.1 - 1 in
    let c = get_or (get_or rows place.0 []) column 0 in
    let start : IsPlaceOf rows (place.0, column) = (h.0, omega (arith, h.1)) in
    previous_place-before (text_of items) place (place.0, column) (Character c)
    (is_before (text_of items) (place.0, column) (Character c) place (text_place items (place.0, column) start)
    (character_occurs rows place.0 column c h.0 start.1 (drop_more (get_or rows place.0 []) column 0 (omega (arith, h.1))))
    (pair_is place place.0 (column + 1) refl (omega arith)))

pub previous_line : {Z : Type 0} (items : List (String Z)) (place : Place) → IsPlaceOf (lines_of items) place → place.1 ≡ 0 → place.0 ≢ 0 →
    Some (line_end (lines_of items) (place.0 - 1)) ≡ previous_place (text_of items) place
previous_line items place h none later =
    let rows = lines_of items in
    let row = place.0 - 1 in
    let start : IsPlaceOf rows (line_end rows row) = (omega (arith, h.0), omega arith) in
    previous_place-before (text_of items) place (line_end rows row) Break
    (is_before (text_of items) (line_end rows row) Break place (text_place items (line_end rows row) start) (break_occurs rows row (omega (arith, h.0)))
    (pair_is place (row + 1) 0 (omega arith) none))
