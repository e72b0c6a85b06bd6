-- Removals that begin and end between clusters have something to remove.
use Rattle.std.proofs.Common.{◌≡◌, ◌≢◌, ◌∙◌, ◌<◌, ◌≤◌, ◌+◌, ◌-◌, ◌==◌, ℕ, Bool, true, false, List, length, None, Some, IfSome, ap, arith, eq-eqb, refl, subst, sym}
use Rattle.std.specs.Prelude.{if◌then◌else◌}
use Rattle.std.proofs.lemmas.Bool.{cond-false, cond-true, ne_eqb}
use Rattle.std.proofs.lemmas.Bool.Decides.{nat_tests}
use Rattle.textarea_clusters.specs.Stops.{column_back, first_stop}
use Rattle.textarea_clusters.proofs.StopPlaces.{column_back_within, first_stop_from, first_stop_within}
use Rattle.textarea_data.specs.declared.cursor.CursorUnit.{CursorUnit}
use Rattle.textarea_data.specs.declared.cursor.CursorUnit.TheVariants as unit
use Rattle.textarea_data.specs.declared.range.AtomicCursorBias.TheVariants.{Backward, Forward}
use Rattle.textarea_text.specs.Place.{IsPlace, Place, index_of, line_of}
use Rattle.textarea_text.specs.Text.{lines}
use Rattle.textarea_document.specs.DocumentState.{DocumentState}
use Rattle.textarea_document.specs.Edits.{HasEffect, Remove}
use Rattle.textarea_document.specs.Sound.{IsSound}
use Rattle.tui_textarea.specs.State.{State}
use Rattle.tui_textarea.specs.Units.{past_cursor, before_cursor, earlier_start, earlier_start_by, if_elsewhere, later_end, later_end_by, stop_of, whole_by, whole_end, whole_start}
use Rattle.tui_textarea.proofs.Settling.{stop_place}

-- ---- stops and the positions that they replace

-- the index of a position in a line
pub back_upto : (document : DocumentState) (place : Place) → index_of document.text (stop_of Backward document place) ≤ index_of document.text place
back_upto document place = omega (arith, column_back_within document.ranges (line_of (lines document.text) place.0) place.0 place.1)

pub ahead_from : (document : DocumentState) (place : Place) → index_of document.text place ≤ index_of document.text (stop_of Forward document place)
ahead_from document place =
    let line = line_of (lines document.text) place.0 in
    omega (arith, first_stop_from document.ranges line place.0 place.1 (length line - place.1))

start_by : (by : CursorUnit) (document : DocumentState) (place : Place) → IsPlace document.text place
    → IsPlace document.text (whole_by by Backward document place) × (index_of document.text (whole_by by Backward document place) ≤ index_of document.text place)
start_by unit.Character document place at = (at, omega arith)
start_by unit.Cluster document place at = (stop_place Backward document place at, back_upto document place)

stop_by : (by : CursorUnit) (document : DocumentState) (place : Place) → IsPlace document.text place
    → IsPlace document.text (whole_by by Forward document place) × (index_of document.text place ≤ index_of document.text (whole_by by Forward document place))
stop_by unit.Character document place at = (at, omega arith)
stop_by unit.Cluster document place at = (stop_place Forward document place at, ahead_from document place)

-- where a removal begins is a position at or before the other one
pub starts_before : (state : State) (place : Place) → IsPlace state.document.text place
    → IsPlace state.document.text (whole_start state place) × (index_of state.document.text (whole_start state place) ≤ index_of state.document.text place)
starts_before state place at = start_by state.settings.cursor_unit state.document place at

pub stops_after : (state : State) (place : Place) → IsPlace state.document.text place
    → IsPlace state.document.text (whole_end state place) × (index_of state.document.text place ≤ index_of state.document.text (whole_end state place))
stops_after state place at = stop_by state.settings.cursor_unit state.document place at

-- ---- removals

pub removes_from_whole : (state : State) (from to : Place) → IsSound state.document → HasEffect state.document (Remove from to) → HasEffect state.document (Remove (whole_start state from) to)
removes_from_whole state from to h made =
    let start = starts_before state from made.0 in
    (start.0, made.1, omega (arith, start.1, made.2))

pub removes_up_to_whole : (state : State) (from to : Place) → IsSound state.document → HasEffect state.document (Remove from to) → HasEffect state.document (Remove from (whole_end state to))
removes_up_to_whole state from to h made =
    let stop = stops_after state to made.1 in
    (made.0, stop.0, omega (arith, stop.1, made.2))

pub removes_whole : (state : State) (from to : Place) → IsSound state.document → HasEffect state.document (Remove from to) → HasEffect state.document (Remove (whole_start state from) (whole_end state to))
removes_whole state from to h made = removes_from_whole state from (whole_end state to) h (removes_up_to_whole state from to h made)

-- ---- beside the cursor

-- the stop is another position in the line, or the same
pub else_elsewhere : (place found stop : Place) → stop ≡ found → stop.1 ≢ place.1 → Some stop ≡ if_elsewhere place found
else_elsewhere place found stop is apart =
    ap Some is ∙ sym (cond-false (found.1 == place.1) None (Some found) (ne_eqb found.1 place.1 (λ e. apart (ap (λ (p : Place). p.1) is ∙ e))))

pub same_elsewhere : (place found stop : Place) → stop ≡ found → stop.1 ≡ place.1 → None ≡ if_elsewhere place found
same_elsewhere place found stop is same =
    sym (cond-true (found.1 == place.1) None (Some found) (eq-eqb found.1 place.1 (ap (λ (p : Place). p.1) (sym is) ∙ same)))

-- at the line's end there is no character after the cursor
pub past_end : (document : DocumentState) → document.cursor.1 ≡ length (line_of (lines document.text) document.cursor.0)
    → stop_of Forward document (past_cursor document) ≡ past_cursor document
unfolding first_stop
past_end document at_end =
    let line = line_of (lines document.text) document.cursor.0 in
    let none : length line - (document.cursor.1 + 1) ≡ 0 = omega (arith, at_end) in
    ap (λ more. (document.cursor.0, first_stop document.ranges line document.cursor.0 (document.cursor.1 + 1) more)) none

-- the start of more than the character before the cursor
pub back_made : (document : DocumentState) (found : Place) → IsSound document → found ≡ stop_of Backward document (before_cursor document)
    → IfSome (if_elsewhere (before_cursor document) found) (λ start. HasEffect document (Remove start document.cursor))
back_made document found h is = by (found.1 == (before_cursor document).1) refl
  where
    before : Place
    before = before_cursor document

    by : (same : Bool) → (found.1 == before.1) ≡ same → IfSome (if same then None else Some found) (λ start. HasEffect document (Remove start document.cursor))
    by true e = tt
    by false e =
        let at : IsPlace document.text before = (h.cursor.0, omega (arith, h.cursor.1)) in
        let within = column_back_within document.ranges (line_of (lines document.text) before.0) before.0 before.1 in
        let column : found.1 ≡ column_back document.ranges (line_of (lines document.text) before.0) before.0 before.1 = ap (λ (p : Place). p.1) is in
        let less : found.1 < document.cursor.1 = grind (arith, nat_tests, within, column, e) in
        let place : IsPlace document.text found = subst (IsPlace document.text) (sym is) (stop_place Backward document before at) in
        let row : found.0 ≡ document.cursor.0 = ap (λ (p : Place). p.0) is in
        let index : index_of document.text (document.cursor.0, found.1) < index_of document.text document.cursor = omega (arith, less) in
        (place, h.cursor, subst (λ (r : ℕ). index_of document.text (r, found.1) < index_of document.text document.cursor) (sym row) index)

pub earlier_made : (state : State) → IsSound state.document → IfSome (earlier_start state) (λ start. HasEffect state.document (Remove start state.document.cursor))
earlier_made state h = by state.settings.cursor_unit
  where
    by : (found : CursorUnit) → IfSome (earlier_start_by found state.document) (λ start. HasEffect state.document (Remove start state.document.cursor))
    by unit.Character = tt
    by unit.Cluster = back_made state.document (stop_of Backward state.document (before_cursor state.document)) h refl

-- the end of more than the character after the cursor
pub ahead_made : (document : DocumentState) (found : Place) → IsSound document → found ≡ stop_of Forward document (past_cursor document)
    → IfSome (if_elsewhere (past_cursor document) found) (λ stop. HasEffect document (Remove document.cursor stop))
ahead_made document found h is = by (found.1 == (past_cursor document).1) refl
  where
    after : Place
    after = past_cursor document

    line : List ℕ
    line = line_of (lines document.text) document.cursor.0

    by : (same : Bool) → (found.1 == after.1) ≡ same → IfSome (if same then None else Some found) (λ stop. HasEffect document (Remove document.cursor stop))
    by true e = tt
    by false e =
        let from = first_stop_from document.ranges line document.cursor.0 (document.cursor.1 + 1) (length line - (document.cursor.1 + 1)) in
        let upto = first_stop_within document.ranges line document.cursor.0 (document.cursor.1 + 1) (length line - (document.cursor.1 + 1)) in
        let column : found.1 ≡ first_stop document.ranges line document.cursor.0 (document.cursor.1 + 1) (length line - (document.cursor.1 + 1)) = ap (λ (p : Place). p.1) is in
        let row : found.0 ≡ document.cursor.0 = ap (λ (p : Place). p.0) is in
        let more : document.cursor.1 + 1 < found.1 = grind (arith, nat_tests, from, column, e) in
        let within : found.1 ≤ length line = grind (arith, upto, column, more) in
        let index : index_of document.text document.cursor < index_of document.text (document.cursor.0, found.1) = omega (arith, more) in
        let place : IsPlace document.text (document.cursor.0, found.1) = (h.cursor.0, within) in (
          h.cursor,
          subst (λ (r : ℕ). IsPlace document.text (r, found.1)) (sym row) place,
          subst (λ (r : ℕ). index_of document.text document.cursor < index_of document.text (r, found.1)) (sym row) index,
        )

pub later_made : (state : State) → IsSound state.document → IfSome (later_end state) (λ stop. HasEffect state.document (Remove state.document.cursor stop))
later_made state h = by state.settings.cursor_unit
  where
    by : (found : CursorUnit) → IfSome (later_end_by found state.document) (λ stop. HasEffect state.document (Remove state.document.cursor stop))
    by unit.Character = tt
    by unit.Cluster = ahead_made state.document (stop_of Forward state.document (past_cursor state.document)) h refl
