-- Symbols inserted at the cursor, and lines duplicated.
use Rattle.std.proofs.Common.{◌≡◌, ◌≢◌, ◌≤◌, ◌<◌, ◌+◌, ◌-◌, ℕ, suc, Bool, true, false, cond, nat_lt, ◌&&◌, List, [], ◌∷◌, ◌++◌, length, take, drop, Option, None, Some, option_map}
use Rattle.std.proofs.Common.{unwrap_or, ap, refl, sym, subst, ◌∙◌, arith, ◌==◌, not, get_or, String}
use Rattle.std.proofs.lemmas.Bool.{eqb-false, eqb-true}
use Rattle.std.proofs.lemmas.Bool.Decides.{nat_tests}
use Rattle.std.proofs.lemmas.Grind.{common_steps}
use Rattle.std.proofs.lemmas.List.{append-nil, append_assoc, drop-append-le, drop-map, drop-take, get_or-append-add, get_or-drop, get_or-take, length-append, length-drop, length-take-le, take-append-drop, take-map, take_more}
use Rattle.textarea_text.specs.Place.{changed}
use Rattle.textarea_text.specs.Text.{following}
use Rattle.textarea_text.proofs.EmptyTexts.{empty_text}
use Rattle.textarea_text.proofs.PlaceLemmas.{end_of_more}
use Rattle.textarea_text.proofs.Splices.{lines-joined}
use Rattle.textarea_text.proofs.StringRows.{rows_replaced}
use Rattle.textarea_text.proofs.TextPlaces.{joined-lines}
use Rattle.textarea_document.specs.Prelude.{IfSome, string_len, Symbol, characters, characters_of, joined, lines, lines_of, text_of, Place, IsPlace, IsPlaceOf, line_end, end}
use Rattle.textarea_document.specs.Prelude.{is_before, Fits, applied, SplitsNoRange, DocumentState, IsSound, Splice, after_edit, after_move, insertion, has_symbols}
use Rattle.textarea_document.specs.Selection.{duplication, first_selected_row, last_selected_row, last_selected_row_by, lines_duplicated, origin, rows_down, selection_duplication, selection_end, selection_start, with_lines_again}
use Rattle.textarea_document.proofs.Ranges.{outside_end}
use Rattle.textarea_document.proofs.Sounds.{sound_edited}

pub filled_some : (symbols : List Symbol) → symbols ≢ [] → true ≡ has_symbols symbols
filled_some [] apart = absurd (apart refl)
filled_some (symbol ∷ symbols) apart = refl

pub filled_none : (symbols : List Symbol) → symbols ≡ [] → false ≡ has_symbols symbols
filled_none [] e = refl
filled_none (symbol ∷ symbols) e = cc

-- a fragment of one string has a symbol if the string is not empty
pub filled_one : {Z : Type 0} (items : List (String Z)) (s : String Z) (empty : Bool) → length items ≡ 1 → s ≡ get_or items 0 s → empty ≡ (string_len s == 0) → not empty ≡ has_symbols (text_of items)
filled_one items s true one read e = filled_none (text_of items) ((empty_text items s one read).0 (eqb-true (string_len s) 0 (sym e)))
filled_one items s false one read e =
    filled_some (text_of items) (λ none. absurd (eqb-false (string_len s) 0 (sym e) ((empty_text items s one read).1 none)))

-- ---- lines that are duplicated

-- the lines from the first row to the last, and those after them
pub again : (rows : List (List ℕ)) (first last : ℕ) → first ≤ last → last < length rows → drop first (take (last + 1) rows) ++ drop (last + 1) rows ≡ drop first rows
again rows first last ordered within =
    sym (drop-append-le first (take (last + 1) rows) (drop (last + 1) rows) (omega (arith, ordered, length-take-le (last + 1) rows (omega (arith, within)))))
    ∙ ap (drop first) (take-append-drop (last + 1) rows)

-- the lines after a duplication
pub lines_again : (text : List Symbol) (first last : ℕ) → first ≤ last → last < length (lines text) → lines (applied text (duplication text first last)) ≡ with_lines_again (lines text) first last
lines_again text first last ordered within =
    let rows = lines text in
    let line = get_or rows last [] in
    let place = line_end rows last in
    let copied = drop first (take (last + 1) rows) in
    let below = drop (last + 1) rows in
    let at : IsPlaceOf rows place = (within, omega arith) in
    let new : joined (line ∷ copied) ≡ characters (take (length line) line) ++ (following copied ++ characters (drop (length line) line)) =
    grind (arith, common_steps, append-nil (following copied)) in
    let whole = rows_replaced rows (line ∷ copied) place place (following copied) at at (omega arith, new) in
    let all : take last rows ++ ((line ∷ copied) ++ below) ≡ with_lines_again rows first last =
    ap (λ r. take last rows ++ line ∷ r) (again rows first last ordered within)
    ∙ sym (append_assoc (take last rows) (line ∷ []) (drop first rows))
    ∙ ap (λ r. r ++ drop first rows) (sym (take_more rows last [] within)) in
    ap (λ t. lines (changed t place place (following copied))) (sym (joined-lines text))
    ∙ ap lines (sym whole)
    ∙ ap (λ r. lines (joined r)) all
    ∙ lines-joined (with_lines_again rows first last) (omega (arith, within, length-append (take (last + 1) rows) (drop first rows), length-take-le (last + 1) rows (omega (arith, within))))

-- a position from the first row on is also one in the copy
pub place_again : (rows : List (List ℕ)) (first last : ℕ) (place : Place) → first ≤ last → last < length rows → first ≤ place.0 → IsPlaceOf rows place → IsPlaceOf (with_lines_again rows first last) (rows_down (last + 1 - first) place)
place_again rows first last place ordered within from h =
    let front = take (last + 1) rows in
    let long : length front ≡ last + 1 = length-take-le (last + 1) rows (omega (arith, within)) in
    let row : place.0 + (last + 1 - first) ≡ length front + (place.0 - first) = omega (arith, long, ordered, from) in
    let same : get_or (with_lines_again rows first last) (place.0 + (last + 1 - first)) [] ≡ get_or rows place.0 [] =
    ap (λ n. get_or (front ++ drop first rows) n []) row
    ∙ get_or-append-add front (drop first rows) (place.0 - first) []
    ∙ get_or-drop first rows (place.0 - first) []
    ∙ ap (λ n. get_or rows n []) (omega (arith, from)) in
    (omega (arith, h.0, row, from, length-append front (drop first rows), length-drop first rows), omega (arith, h.1, ap length same))

pub duplication_fits : (text : List Symbol) (first last : ℕ) → first ≤ last → last < length (lines text) → Fits text (duplication text first last)
duplication_fits text first last ordered within =
    record { some = some_symbols; is_place = (within, omega arith); allowed = tt }
  where
    filled : (rows : List (List ℕ)) → 0 < length rows → 0 < length (following rows)
    filled [] h = h
    filled (line ∷ rest) h = omega arith

    some_symbols : 0 < length (following (drop first (take (last + 1) (lines text))))
    some_symbols = filled (drop first (take (last + 1) (lines text))) (omega (arith, ordered, length-drop first (take (last + 1) (lines text)), length-take-le (last + 1) (lines text) (omega (arith, within))))

-- ---- the rows of a selection

pub record SelectedRows (count : ℕ) (cursor from start stop : Place) : Type 0 where
  pub ordered : start.0 ≤ last_selected_row_by start stop
  pub within : last_selected_row_by start stop < count
  pub cursor_from : start.0 ≤ cursor.0
  pub anchor_from : start.0 ≤ from.0

rows_up_to : (count : ℕ) (start stop : Place) (b : Bool) → (nat_lt start.0 stop.0 && stop.1 == 0) ≡ b → start.0 ≤ stop.0 → stop.0 < count → (start.0 ≤ cond b (stop.0 - 1) stop.0) × (cond b (stop.0 - 1) stop.0 < count)
rows_up_to count start stop true is up within = let less : start.0 < stop.0 = grind (arith, nat_tests) in (omega (arith, less), omega (arith, within))
rows_up_to count start stop false is up within = (up, within)

rows_by : (count : ℕ) (cursor from : Place) (b : Bool) → is_before cursor from ≡ b → cursor.0 < count → from.0 < count → SelectedRows count cursor from (cond b cursor from) (cond b from cursor)
rows_by count cursor from true is here there =
    let up : cursor.0 ≤ from.0 = grind (arith, nat_tests) in
    let ends = rows_up_to count cursor from _ refl up there in
    record { ordered = ends.0; within = ends.1; cursor_from = omega arith; anchor_from = up }
rows_by count cursor from false is here there =
    let up : from.0 ≤ cursor.0 = grind (arith, nat_tests) in
    let ends = rows_up_to count from cursor _ refl up here in
    record { ordered = ends.0; within = ends.1; cursor_from = up; anchor_from = omega arith }

pub selected_rows : (document : DocumentState) → IsPlace document.text document.cursor → IfSome document.anchor (IsPlace document.text)
    → SelectedRows (length (lines document.text)) document.cursor (origin document) (selection_start document) (selection_end document)
selected_rows document at from =
    rows_by (length (lines document.text)) document.cursor (origin document) (is_before document.cursor (origin document)) refl at.0 (origin_within document.anchor from)
  where
    origin_within : (anchor : Option Place) → IfSome anchor (IsPlace document.text) → (origin (record document { anchor = anchor })).0 < length (lines document.text)
    origin_within None from = at.0
    origin_within (Some place) from = from.0

-- ---- the document after it

anchor_down : (text new : List Symbol) (count first : ℕ) (cursor : Place) (anchor : Option Place)
    → ((place : Place) → first ≤ place.0 → IsPlace text place → IsPlace new (rows_down count place)) → first ≤ (unwrap_or anchor cursor).0
    → IfSome anchor (IsPlace text) → IfSome (option_map (rows_down count) anchor) (IsPlace new)
anchor_down text new count first cursor None down from at = tt
anchor_down text new count first cursor (Some place) down from at = down place from at

-- cursor and anchor are positions of the copy
pub record ArePlacesInCopy (document : DocumentState) (new : DocumentState) : Type 0 where
  pub cursor : IsPlace new.text new.cursor
  pub anchor : IfSome new.anchor (IsPlace new.text)

pub places_in_copy : (document : DocumentState) (now : ℕ) → IsPlace document.text document.cursor → IfSome document.anchor (IsPlace document.text) → ArePlacesInCopy document (lines_duplicated document now)
places_in_copy document now at from =
    let text = document.text in
    let first = first_selected_row document in
    let last = last_selected_row document in
    let count = last + 1 - first in
    let rows = selected_rows document at from in
    let new = applied text (duplication text first last) in
    let down : (place : Place) → first ≤ place.0 → IsPlace text place → IsPlace new (rows_down count place) =
    λ place below at. subst (λ (r : List (List ℕ)). IsPlaceOf r (rows_down count place)) (sym (lines_again text first last rows.ordered rows.within)) (place_again (lines text) first last place rows.ordered rows.within below at) in
    record { cursor = down document.cursor rows.cursor_from at; anchor = anchor_down text new count first document.cursor document.anchor down rows.anchor_from from }

pub selection_duplication_fits : (document : DocumentState) → IsPlace document.text document.cursor → IfSome document.anchor (IsPlace document.text) → Fits document.text (selection_duplication document)
selection_duplication_fits document at from =
    let rows = selected_rows document at from in
    duplication_fits document.text (first_selected_row document) (last_selected_row document) rows.ordered rows.within

pub sound_duplicated : (document : DocumentState) (now : ℕ) → IsSound document → IsSound (lines_duplicated document now)
sound_duplicated document now h =
    let splice = selection_duplication document in
    let edited = sound_edited document splice false now h (selection_duplication_fits document h.cursor h.anchor) in
    let places = places_in_copy document now h.cursor h.anchor in
    record {
      cursor = places.cursor;
      anchor = places.anchor;
      ranges = edited.ranges;
      in_order = edited.in_order;
      undo = edited.undo;
      redo = edited.redo;
      bounded = edited.bounded;
      marks = edited.marks;
      whole = edited.whole;
      past = edited.past;
    }

-- its splice splits no range
pub duplication_splits_none : (document : DocumentState) → IsSound document → SplitsNoRange document.ranges (selection_duplication document)
duplication_splits_none document h =
    outside_end (lines document.text) document.ranges (line_end (lines document.text) (last_selected_row document)) h.ranges (omega arith)

-- an edit of copies of the lines is the duplication
pub splice_of_copy : {Z : Type 0} (text : List Symbol) (first last row end_row : ℕ) (place : Place) (items copy : List (String Z)) → row ≡ first
    → end_row ≡ last → row ≤ end_row → place ≡ line_end (lines text) end_row → lines_of items ≡ lines text
    → lines_of copy ≡ [] ∷ lines_of (take (end_row + 1 - row) (drop row items)) → insertion place (text_of copy) ≡ duplication text first last
splice_of_copy text first last row end_row place items copy from to ordered at read is =
    let copied : lines_of (take (end_row + 1 - row) (drop row items)) ≡ drop row (take (end_row + 1) (lines text)) =
    sym (take-map characters_of (end_row + 1 - row) (drop row items))
    ∙ ap (take (end_row + 1 - row)) (sym (drop-map characters_of row items) ∙ ap (drop row) read)
    ∙ sym (drop-take row (end_row + 1 - row) (lines text))
    ∙ ap (λ n. drop row (take n (lines text))) (omega (arith, ordered)) in
    ap (λ (p : Place). insertion p (text_of copy)) at
    ∙ ap (λ (r : List (List ℕ)). insertion (line_end (lines text) end_row) (joined r)) (is ∙ ap (λ (r : List (List ℕ)). [] ∷ r) copied)
    ∙ ap (λ n. duplication text n end_row) from
    ∙ ap (λ n. duplication text first n) to

-- it ends in the last line's copy
pub duplication_ends : (text : List Symbol) (first last : ℕ) → first ≤ last → last < length (lines text) → end (line_end (lines text) last) (duplication text first last).symbols ≡ (last + (last + 1 - first), (line_end (lines text) last).1)
duplication_ends text first last ordered within =
    let rows = lines text in
    let copied = drop first (take (last + 1) rows) in
    let count = last + 1 - first in
    let long : length copied ≡ count = omega (arith, length-drop first (take (last + 1) rows), length-take-le (last + 1) rows (omega (arith, within))) in
    let next : count ≡ suc (last - first) = omega (arith, ordered) in
    let here : get_or ([] ∷ copied) count [] ≡ get_or rows last [] =
    ap (λ n. get_or ([] ∷ copied) n []) next ∙ get_or-drop first (take (last + 1) rows) (last - first) []
    ∙ ap (λ n. get_or (take (last + 1) rows) n []) (omega (arith, ordered)) ∙ get_or-take (last + 1) rows last [] (omega arith) in
    end_of_more (line_end rows last) ([] ∷ copied) count (omega (arith, long)) (omega (arith, ordered))
    ∙ ap (λ (l : List ℕ). (last + count, length l)) here

pub ends_as : (text : List Symbol) (first last row end_row : ℕ) (place to : Place) → row ≡ first → end_row ≡ last → place ≡ line_end (lines text) end_row
    → to ≡ (end_row + (end_row + 1 - row), place.1) → row ≤ end_row → end_row < length (lines text)
    → to ≡ end (duplication text first last).place (duplication text first last).symbols
ends_as text first last row end_row place to from until at is ordered within =
    is
    ∙ ap (λ (p : Place). (end_row + (end_row + 1 - row), p.1)) at
    ∙ sym (duplication_ends text row end_row ordered within)
    ∙ ap (λ n. end (line_end (lines text) end_row) (duplication text n end_row).symbols) from
    ∙ ap (λ n. end (line_end (lines text) n) (duplication text first n).symbols) until

-- copies of the lines, and an empty one, are at least two
pub two_lines : (count row end_row copied all : ℕ) → {X : Type 0} (items : List X) → length items ≡ count → row ≤ end_row → end_row < count → copied ≡ length (take (end_row + 1 - row) (drop row items)) → all ≡ copied + 1 → 2 ≤ all
two_lines count row end_row copied all items long ordered within is more =
    omega (arith, is, more, long, length-drop row items, length-take-le (end_row + 1 - row) (drop row items) (omega (arith, length-drop row items, long, ordered, within)))

-- ---- the same of values that are equal to these

pub place_as : (text new : List Symbol) (place cursor : Place) (row end_row first last : ℕ) → new ≡ text → place ≡ cursor → row ≡ first → end_row ≡ last
    → IsPlace text (rows_down (last + 1 - first) cursor) → IsPlace new (rows_down (end_row + 1 - row) place)
place_as text new place cursor row end_row first last same at from to h = rw (same, at, from, to) h

pub anchor_as : (text new : List Symbol) (place found anchor : Option Place) (row end_row first last : ℕ) → new ≡ text
    → place ≡ option_map (rows_down (end_row + 1 - row)) found → found ≡ anchor → row ≡ first → end_row ≡ last
    → IfSome (option_map (rows_down (last + 1 - first)) anchor) (IsPlace text) → IfSome place (IsPlace new)
anchor_as text new place found anchor row end_row first last same is at from to h = rw (same, is, at, from, to) h

pub duplicated_as : (document edited new : DocumentState) (splice : Splice) (place : Place) (found moved : Option Place) (row end_row now : ℕ)
    → edited ≡ after_edit document splice false now → splice ≡ selection_duplication document → place ≡ document.cursor
    → moved ≡ option_map (rows_down (end_row + 1 - row)) found → found ≡ document.anchor → row ≡ first_selected_row document
    → end_row ≡ last_selected_row document → new ≡ after_move edited (rows_down (end_row + 1 - row) place) moved → new ≡ lines_duplicated document now
duplicated_as document edited new splice place found moved row end_row now made is at moved_is found_is from to h = rw (h, moved_is, made, is, at, found_is, from, to) refl

pub text_is : (document edited : DocumentState) (splice : Splice) (now : ℕ) → edited ≡ after_edit document splice false now → splice ≡ selection_duplication document → edited.text ≡ applied document.text (selection_duplication document)
text_is document edited splice now made is = ap (λ (d : DocumentState). d.text) made ∙ ap (applied document.text) is
