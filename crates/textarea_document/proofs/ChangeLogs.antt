-- Changes of lines, as the log gets them.
use Rattle.std.proofs.Common.{◌≡◌, ◌∙◌, ◌<◌, ℕ, Bool, true, false, List, [], ◌∷◌, length, IfOk, Result, Ok, Err, ap, sym, subst, arith, String, Vec, vec_len}
use Rattle.std.specs.declared.alloc.Global.{Global}
use Rattle.std.proofs.lemmas.List.{length-map}
use Rattle.textarea_document.specs.Prelude.{Symbol, characters_of, lines, lines_of, text_of, Place, IsPlace, IsPlaceOf, place_of, Fits, Splice, place_before}
use Rattle.textarea_document.specs.Prelude.{ChangeUnit, ChangeView, change_of, inserted_lines, place_in_unit, whole_change}
use Rattle.textarea_text.specs.Splice.{Allows}
use Rattle.textarea_text.proofs.Splices.{lines-joined}
use Rattle.textarea_text.proofs.StringRows.{occurs_until, rows_place}

-- the lines of at least one string
pub rows_are : {Z : Type 0} (items : List (String Z)) → 0 < length items → lines (text_of items) ≡ lines_of items
rows_are items some = lines-joined (lines_of items) (omega (arith, some, length-map items characters_of))

-- the end of what a splice removes is a position
before_is_place : (inserts : Bool) (text : List Symbol) (place : Place) (symbols : List Symbol) → IsPlace text place → Allows inserts text place symbols
    → IsPlace text (place_before (record { place = place; symbols = symbols; inserts = inserts }))
before_is_place true text place symbols h allowed = h
before_is_place false text place symbols h allowed = (occurs_until text place symbols h allowed).0

pub starts : {Z : Type 0} (items : List (String Z)) (splice : Splice) (start : Place) → 0 < length items → Fits (text_of items) splice → start ≡ splice.place → IsPlaceOf (lines_of items) start
starts items splice start some fits is = subst (IsPlaceOf (lines_of items)) (sym is) (rows_place items splice.place some fits.is_place)

pub stops : {Z : Type 0} (items : List (String Z)) (splice : Splice) (to : Place) → 0 < length items → Fits (text_of items) splice → to ≡ place_before splice → IsPlaceOf (lines_of items) to
stops items splice to some fits is =
    subst (IsPlaceOf (lines_of items)) (sym is)
    (rows_place items (place_before splice) some (before_is_place splice.inserts (text_of items) splice.place splice.symbols fits.is_place fits.allowed))

abbrev view : Place → Place → List (List ℕ) → ChangeView
view start to rows = record { start = start; end = to; lines = rows }

-- a position in the unit, by the lines of the text
in_text : {Z : Type 0} (unit : ChangeUnit) (items : List (String Z)) (place is found : Place) → 0 < length items → place ≡ is → found ≡ place_in_unit unit (lines_of items) place
    → found ≡ place_in_unit unit (lines (text_of items)) is
in_text unit items place is found some same found_is =
    found_is ∙ ap (place_in_unit unit (lines_of items)) same ∙ ap (λ (rows : List (List ℕ)). place_in_unit unit rows is) (sym (rows_are items some))

-- a change whose parts are those of a splice
pub change_is : {Z : Type 0} (unit : ChangeUnit) (items : List (String Z)) (splice : Splice) (start to first last : Place) (inserted : List (List ℕ)) → 0 < length items
    → start ≡ splice.place → to ≡ place_before splice → first ≡ place_in_unit unit (lines_of items) start → last ≡ place_in_unit unit (lines_of items) to → inserted ≡ inserted_lines splice
    → view first last inserted ≡ change_of unit (text_of items) splice
change_is unit items splice start to first last inserted some start_is to_is first_is last_is inserted_is =
    let begins = in_text unit items start splice.place first some start_is first_is in
    let ends = in_text unit items to (place_before splice) last some to_is last_is in
    ap (λ (p : Place). view p last inserted) begins
    ∙ ap (λ (p : Place). view (place_in_unit unit (lines (text_of items)) splice.place) p inserted) ends
    ∙ ap (view (place_in_unit unit (lines (text_of items)) splice.place) (place_in_unit unit (lines (text_of items)) (place_before splice))) inserted_is

-- a change of all lines
pub whole_is : {Z : Type 0} (unit : ChangeUnit) (items : List (String Z)) (to last : Place) (inserted others : List (List ℕ)) → 0 < length items
    → to ≡ place_of (text_of items) (length (text_of items)) → last ≡ place_in_unit unit (lines_of items) to → inserted ≡ others
    → view (0, 0) last inserted ≡ whole_change unit (text_of items) others
whole_is unit items to last inserted others some to_is last_is inserted_is =
    let stop = place_of (text_of items) (length (text_of items)) in
    let ends = in_text unit items to stop last some to_is last_is in
    ap (λ (p : Place). view (0, 0) p inserted) ends ∙ ap (view (0, 0) (place_in_unit unit (lines (text_of items)) stop)) inserted_is

-- the lines that a splice inserts, by the symbols of strings
pub inserted_is : {Z : Type 0} (items : List (String Z)) (splice : Splice) → 0 < length items → splice.inserts ≡ true → text_of items ≡ splice.symbols → lines_of items ≡ inserted_lines splice
inserted_is items splice some inserts is =
    sym (rows_are items some) ∙ ap lines is ∙ ap (λ (b : Bool). inserted_lines (record splice { inserts = b })) (sym inserts)

pub nothing_inserted_is : (splice : Splice) (rows : List (List ℕ)) → splice.inserts ≡ false → rows ≡ [] ∷ [] → rows ≡ inserted_lines splice
nothing_inserted_is splice rows removes is = is ∙ ap (λ (b : Bool). inserted_lines (record splice { inserts = b })) (sym removes)

-- the same of copied lines, if memory doesn't run out
pub copied_is : {E : Type 0} (r : Result (Vec (String Global) Global) E) (splice : Splice) → splice.inserts ≡ true → IfOk r (λ copy. 0 < vec_len copy)
    → IfOk r (λ copy. text_of copy.items ≡ splice.symbols) → IfOk r (λ copy. lines_of copy.items ≡ inserted_lines splice)
copied_is (Ok copy) splice inserts some text = inserted_is copy.items splice (omega (arith, some, copy.ok.0)) inserts text
copied_is (Err error) splice inserts some text = tt
