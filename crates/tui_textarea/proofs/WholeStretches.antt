-- Stretches of a text that are replaced one after another: if all begin and end at stops, the first
-- removal takes whole clusters. So does that of a line that changes places with others.
use Rattle.std.proofs.Common.{◌≡◌, ◌∙◌, ◌≤◌, ◌+◌, ◌-◌, ◌==◌, ℕ, Bool, true, false, cond, List, [], ◌∷◌, ◌++◌, length, min, None, ap, arith, refl, subst, sym}
use Rattle.std.proofs.lemmas.Bool.{cond-false, false≢true}
use Rattle.std.proofs.lemmas.Bool.Decides.{nat_tests}
use Rattle.std.proofs.lemmas.List.Elements.{All-head, All-tail}
use Rattle.textarea_data.specs.declared.range.AtomicCursorBias.TheVariants.{Forward}
use Rattle.textarea_text.specs.Between.{clip}
use Rattle.textarea_text.specs.Place.{IsPlace, IsPlaceOf, IsUpTo, Place, end, index_of, is_before, last_row, line_end, line_of, place_of}
use Rattle.textarea_text.specs.Splice.{Splice}
use Rattle.textarea_text.specs.Text.{Symbol, following, leading, lines}
use Rattle.textarea_document.specs.DocumentState.{DocumentState}
use Rattle.textarea_document.specs.Edits.{nothing_inserted}
use Rattle.textarea_document.specs.Moving.{has_line_below, move_down_splices, move_up_splices, relocation_splices}
use Rattle.textarea_document.specs.Outcomes.{after_move}
use Rattle.textarea_document.specs.Replacing.{ahead_end, ahead_start, all_splices, begun, begun_at_start, each_splices, first_place, last_place, place_ahead, range_splices, stretch_end, stretch_removal, stretch_start}
unfoldable use Rattle.textarea_document.specs.Replacing.{ahead_replaced, stretch_removed, stretch_replaced, stretch_splices}
use Rattle.textarea_document.specs.Selection.{first_selected_row, last_selected_row}
use Rattle.textarea_document.specs.Sound.{IsSound}
use Rattle.textarea_document.specs.Splices.{insertion_splices, removal_splices}
use Rattle.textarea_document.proofs.MovedLines.{ends_above, ends_below}
use Rattle.textarea_document.proofs.Orders.{index_before}
use Rattle.textarea_document.proofs.Ranges.{index_from_up_to}
use Rattle.textarea_document.proofs.Sounds.{sound_begun, start_is_place}
use Rattle.tui_textarea.specs.Units.{AreWholeStretches, FirstTakesWhole, IsAtStop}
use Rattle.tui_textarea.proofs.Cases.{by_test}
use Rattle.tui_textarea.proofs.Removing.{place_by_index}
use Rattle.tui_textarea.proofs.SoundStates.{sound_at}
use Rattle.tui_textarea.proofs.Stepping.{nothing_stays_sound}
use Rattle.tui_textarea.proofs.WholeEnds.{end_stop, removal_whole, start_stop, stays_at_stop}

-- ---- an insertion removes nothing

pub insertion_whole : (document other : DocumentState) (symbols : List Symbol) → FirstTakesWhole document (insertion_splices other symbols)
insertion_whole document other [] = tt
insertion_whole document other (symbol ∷ symbols) = λ removes. absurd (false≢true (sym removes))

-- ---- one stretch

-- a position of the text that is a stop
abbrev pub IsEdge : DocumentState → Place → Type 0
IsEdge document place = IsPlace document.text place × IsAtStop document place

stretch_whole : (document : DocumentState) (start stop : Place) (more : List Splice) → IsEdge document start → IsEdge document stop → (is_before start stop ≡ false → FirstTakesWhole document more)
    → FirstTakesWhole document (stretch_removal document start stop ++ more)
stretch_whole document start stop more from to others =
    by_test (λ splices. FirstTakesWhole document (splices ++ more)) (is_before start stop) (removal_splices document start stop) []
    (λ before. removal_whole document start stop (from.0, to.0, index_before document.text start stop from.0 to.0 before) from.1 to.1)
    others

-- in a document, with further splices
one_whole : (document : DocumentState) (start stop : Place) (symbols : List Symbol) (now : ℕ) (more : List Splice) → IsEdge document start → IsEdge document stop
    → (is_before start stop ≡ false → symbols ≡ [] → FirstTakesWhole document more) → FirstTakesWhole document (stretch_splices document start stop symbols now ++ more)
unfolding stretch_splices
one_whole document start stop [] now more from to others =
    by_test (λ splices. FirstTakesWhole document ((splices ++ []) ++ more)) (is_before start stop) (removal_splices document start stop) []
    (λ before. removal_whole document start stop (from.0, to.0, index_before document.text start stop from.0 to.0 before) from.1 to.1)
    (λ none. others none refl)
one_whole document start stop (symbol ∷ symbols) now more from to others =
    let inserted = insertion_splices (stretch_removed document start stop now) (symbol ∷ symbols) in
    by_test (λ splices. FirstTakesWhole document ((splices ++ inserted) ++ more)) (is_before start stop) (removal_splices document start stop) []
    (λ before. removal_whole document start stop (from.0, to.0, index_before document.text start stop from.0 to.0 before) from.1 to.1)
    (λ none removes. absurd (false≢true (sym removes)))

-- in a group that begins
replaced_whole : (document : DocumentState) (start stop : Place) (symbols : List Symbol) (now : ℕ) → IsEdge document start → IsEdge document stop
    → FirstTakesWhole document (stretch_splices (begun document) start stop symbols now)
unfolding stretch_splices
replaced_whole document start stop symbols now from to =
    let between = stretch_removed (begun document) start stop now in
    stretch_whole document start stop (insertion_splices between symbols) from to (λ none. insertion_whole document between symbols)

-- ---- the text between two positions in either order

-- a position of the lines is the nearest to itself
clip_same : (rows : List (List ℕ)) (place : Place) → IsPlaceOf rows place → clip rows place ≡ place
clip_same rows place at =
    let row : min place.0 (last_row rows) ≡ place.0 = grind (arith, nat_tests, at.0) in
    ap (λ (n : ℕ). (n, min place.1 (length (line_of rows n)))) row
    ∙ ap (λ (n : ℕ). (place.0, n)) (grind (arith, nat_tests, at.1))

clip_edge : (document : DocumentState) (place : Place) → IsEdge document place → IsEdge document (clip (lines document.text) place)
clip_edge document place at = subst (IsEdge document) (sym (clip_same (lines document.text) place at.0)) at

first_or_last : (document : DocumentState) (one other : Place) → IsEdge document one → IsEdge document other → IsEdge document (first_place one other) × IsEdge document (last_place one other)
first_or_last document one other h k = by (is_before other one)
  where
    by : (before : Bool) → IsEdge document (cond before other one) × IsEdge document (cond before one other)
    by true = (k, h)
    by false = (h, k)

pub range_whole : (document : DocumentState) (from to : Place) (symbols : List Symbol) (now : ℕ) → IsEdge document from → IsEdge document to
    → FirstTakesWhole document (range_splices document from to symbols now)
range_whole document from to symbols now at at_to =
    let rows = lines document.text in
    let ends = first_or_last document (clip rows from) (clip rows to) (clip_edge document from at) (clip_edge document to at_to) in
    replaced_whole document (stretch_start document.text from to) (stretch_end document.text from to) symbols now ends.0 ends.1

-- ---- one stretch after another

-- they are in order, and in a text of this length
abbrev pub AreInOrder : ℕ → ℕ → List (ℕ × ℕ) → Type 0
AreInOrder passed size [] = Unit {0}
AreInOrder passed size (stretch ∷ rest) = (passed ≤ stretch.0) × (stretch.0 ≤ stretch.1) × (stretch.1 ≤ size) × AreInOrder stretch.1 size rest

place_ahead_is : (text : List Symbol) (place : Place) (count index : ℕ) → index_of text place + count ≡ index → index ≤ length text → place_ahead text place count ≡ place_of text index
place_ahead_is text place count index is within =
    let least : min (index_of text place + count) (length text) ≡ index = grind (arith, nat_tests, is, within) in
    ap (place_of text) least

-- where nothing is removed and nothing inserted, only the cursor goes on
nothing_replaced : (document : DocumentState) (start stop : Place) (now : ℕ) → is_before start stop ≡ false
    → stretch_replaced document start stop [] now ≡ nothing_inserted (after_move document start None)
unfolding stretch_replaced stretch_removed
nothing_replaced document start stop now none = ap nothing_inserted (cond-false (is_before start stop) _ (after_move document start None) none)

-- the same in another document with these stops
same_whole : (one other : DocumentState) (splices : List Splice) → ((place : Place) → IsAtStop one place → IsAtStop other place) → FirstTakesWhole one splices → FirstTakesWhole other splices
same_whole one other [] goes h = tt
same_whole one other (splice ∷ rest) goes h = λ removes.
    let whole = h removes in
    record { start = goes splice.place whole.start; stop = goes (end splice.place splice.symbols) whole.stop }

not_before : (one other : Place) → is_before other one ≡ false → IsUpTo one other
not_before one other e = (grind (arith, nat_tests), λ same. grind (arith, nat_tests))

-- a stretch that begins where it ends is passed
passed_is : (text : List Symbol) (start stop : Place) → IsPlace text start → IsPlace text stop → is_before start stop ≡ false → index_of text start ≤ index_of text stop → index_of text start ≡ index_of text stop
passed_is text start stop at to none ordered = omega (arith, ordered, index_from_up_to text stop start to at (not_before stop start none))

each_whole : (document : DocumentState) (passed : ℕ) (stretches : List (ℕ × ℕ)) (symbols : List Symbol) (now : ℕ) → IsSound document → index_of document.text document.cursor ≡ passed
    → AreInOrder passed (length document.text) stretches → AreWholeStretches document stretches → FirstTakesWhole document (each_splices document passed stretches symbols now)
unfolding ahead_replaced
each_whole document passed [] symbols now h at order whole = tt
each_whole document passed (stretch ∷ rest) symbols now h at order whole =
    let text = document.text in
    let ends = All-head (λ (s : ℕ × ℕ). IsAtStop document (place_of text s.0) × IsAtStop document (place_of text s.1)) stretch rest whole in
    let others = All-tail (λ (s : ℕ × ℕ). IsAtStop document (place_of text s.0) × IsAtStop document (place_of text s.1)) stretch rest whole in
    let skip = stretch.0 - passed in
    let count = stretch.1 - stretch.0 in
    let start = ahead_start document skip in
    let stop = ahead_end document skip count in
    let first = place_by_index text stretch.0 (omega (arith, order.1, order.2)) in
    let last = place_by_index text stretch.1 order.2 in
    let start_is : start ≡ place_of text stretch.0 = place_ahead_is text document.cursor skip stretch.0 (omega (arith, at, order.0)) (omega (arith, order.1, order.2)) in
    let index : index_of text start ≡ stretch.0 = ap (index_of text) start_is ∙ first.1 in
    let stop_is : stop ≡ place_of text stretch.1 = place_ahead_is text start count stretch.1 (omega (arith, index, order.1)) order.2 in
    let last_index : index_of text stop ≡ stretch.1 = ap (index_of text) stop_is ∙ last.1 in
    let from : IsEdge document start = subst (IsEdge document) (sym start_is) (first.0, ends.0) in
    let to : IsEdge document stop = subst (IsEdge document) (sym stop_is) (last.0, ends.1) in
    let next = nothing_inserted (after_move document start None) in
    let goes_on : is_before start stop ≡ false → symbols ≡ [] → FirstTakesWhole document (each_splices (stretch_replaced document start stop symbols now) stretch.1 rest symbols now) =
    λ none empty.
    let sound = nothing_stays_sound (after_move document start None) (sound_at document start None h from.0 tt) in
    let same = passed_is text start stop from.0 to.0 none (omega (arith, index, last_index, order.1)) in
    let there : index_of text next.cursor ≡ stretch.1 = ap (index_of text) (stays_at_stop document start Forward from.1) ∙ same ∙ last_index in
    let further = each_whole next stretch.1 rest [] now sound there order.3 others in
    let moved = same_whole next document (each_splices next stretch.1 rest [] now) (λ place edge. edge) further in
    let made = subst (λ (d : DocumentState). FirstTakesWhole document (each_splices d stretch.1 rest [] now)) (sym (nothing_replaced document start stop now none)) moved in
    subst (λ (s : List Symbol). FirstTakesWhole document (each_splices (stretch_replaced document start stop s now) stretch.1 rest s now)) (sym empty) made in
    one_whole document start stop symbols now (each_splices (stretch_replaced document start stop symbols now) stretch.1 rest symbols now) from to goes_on

pub all_whole : (document : DocumentState) (stretches : List (ℕ × ℕ)) (symbols : List Symbol) (now : ℕ) → IsSound document → AreInOrder 0 (length document.text) stretches → AreWholeStretches document stretches
    → FirstTakesWhole document (all_splices document stretches symbols now)
all_whole document stretches symbols now h order whole =
    let start = begun_at_start document in
    let sound = sound_at (begun document) (0, 0) None (sound_begun document h) (start_is_place document.text) tt in
    same_whole start document (all_splices document stretches symbols now) (λ place edge. edge) (each_whole start 0 stretches symbols now sound (omega arith) order whole)

-- ---- lines that change places with the line above or below them

never_before : (place : Place) → is_before place place ≡ false
never_before place = grind (arith, nat_tests)

there_whole : (document between : DocumentState) (there : Place) (symbols : List Symbol) (now : ℕ) → FirstTakesWhole document (stretch_splices between there there symbols now)
unfolding stretch_splices
there_whole document between there symbols now =
    let left = stretch_removed between there there now in
    by_test (λ splices. FirstTakesWhole document (splices ++ insertion_splices left symbols)) (is_before there there) (removal_splices between there there) []
    (λ before. absurd (false≢true (sym (never_before there) ∙ before))) (λ none. insertion_whole document left symbols)

relocation_whole : (document : DocumentState) (start stop place : Place) (symbols : List Symbol) (now : ℕ) → IsEdge document start → IsEdge document stop
    → FirstTakesWhole document (relocation_splices document start stop place symbols now)
relocation_whole document start stop place symbols now from to =
    let between = stretch_removed (begun document) start stop now in
    let there = clip (lines between.text) place in
    stretch_whole document start stop (stretch_splices between there there symbols now) from to (λ none. there_whole document between there symbols now)

pub up_whole : (document : DocumentState) (now : ℕ) → IsSound document → FirstTakesWhole document (move_up_splices document now)
up_whole document now h =
    let rows = lines document.text in
    let first = first_selected_row document in
    let last = last_selected_row document in
    let place : Place = (last - 1, length (line_of rows last)) in
    let symbols = following (line_of rows (first - 1) ∷ []) in
    let ends = ends_above document h in
    by_test (FirstTakesWhole document) (first == 0) [] (relocation_splices document (first - 1, 0) (first, 0) place symbols now) (λ none. tt)
    (λ some. relocation_whole document (first - 1, 0) (first, 0) place symbols now (ends.0, start_stop document (first - 1)) (ends.1, start_stop document first))

pub down_whole : (document : DocumentState) (now : ℕ) → IsSound document → FirstTakesWhole document (move_down_splices document now)
down_whole document now h =
    let rows = lines document.text in
    let last = last_selected_row document in
    let start = line_end rows last in
    let stop = line_end rows (last + 1) in
    let place : Place = (first_selected_row document, 0) in
    let symbols = leading (line_of rows (last + 1) ∷ []) in
    by_test (FirstTakesWhole document) (has_line_below document) (relocation_splices document start stop place symbols now) []
    (λ some.
    let ends = ends_below document h some in
    relocation_whole document start stop place symbols now (ends.0, end_stop document last h) (ends.1, end_stop document (last + 1) h))
    (λ none. tt)
