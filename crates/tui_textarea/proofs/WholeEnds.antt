-- Removals between two stops take whole clusters: from one stop to another, of the selection, of a
-- break, and of the symbol or the range beside a cursor that is at a stop.
use Rattle.std.proofs.Common.{◌≡◌, ◌≢◌, ◌∙◌, ◌<◌, ◌≤◌, ◌+◌, ◌-◌, ◌==◌, ℕ, Bool, true, false, cond, not, List, [], ◌∷◌, length, take, drop, Option, None, Some, IfSome, All, Contains, MatchOption, is_some, unwrap_or, ap, arith, refl, subst, sym, inl, inr}
use Rattle.std.proofs.lemmas.Bool.{and_parts, cases_lt, false≢true}
use Rattle.std.proofs.lemmas.List.Elements.{All-contains}
use Rattle.std.proofs.Math.Seq.{take-add}
use Rattle.textarea_clusters.specs.Edges.{is_cluster_edge}
use Rattle.textarea_clusters.proofs.StopPlaces.{end_is_stop, start_is_stop}
use Rattle.textarea_data.specs.declared.range.AtomicCursorBias.{AtomicCursorBias}
use Rattle.textarea_data.specs.declared.range.AtomicCursorBias.TheVariants.{Backward, Forward}
use Rattle.textarea_data.specs.declared.range.AtomicDeleteDirection.{AtomicDeleteDirection}
use Rattle.textarea_data.specs.declared.range.AtomicDeleteDirection.TheVariants.{Backward as DeleteBackward, Forward as DeleteForward}
use Rattle.textarea_data.specs.declared.range.AtomicRange.{AtomicRange}
use Rattle.textarea_ranges.specs.Lookup.{IsInside, IsRangeAtPlace, moved_out, range_around, range_at_place, range_edge_or, range_end, range_start}
use Rattle.textarea_ranges.specs.Valid.{IsRangeOfLine}
use Rattle.textarea_ranges.proofs.LookupLemmas.{MatchOption-at_place, MatchOption-inside}
use Rattle.textarea_text.specs.Place.{IsPlace, Place, end, index_of, line_end, line_of, place_of, row_start}
use Rattle.textarea_text.specs.Splice.{Splice}
use Rattle.textarea_text.specs.Text.{Symbol, lines}
use Rattle.textarea_text.proofs.Befores.{pair_is}
use Rattle.textarea_text.proofs.PlaceLemmas.{is_at_end as ends_text}
use Rattle.textarea_text.proofs.Splices.{end-append}
use Rattle.textarea_text.proofs.TextPlaces.{joined-lines, place_of-index}
use Rattle.textarea_document.specs.DocumentState.{DocumentState}
use Rattle.textarea_document.specs.Edits.{HasEffect, Remove, RemoveAfter, RemoveBefore, RemoveBreak, cursor_index, is_at_end, is_at_start, range_after, range_before, removal, splice_of_step, symbol_removal, widened_removal}
use Rattle.textarea_document.specs.Selection.{is_selected, origin, selection_end, selection_start}
use Rattle.textarea_document.specs.Sound.{IsSound}
use Rattle.textarea_document.specs.Splices.{after_splices, before_splices, break_splices, range_splices_or, removal_splices, selected_splices}
use Rattle.textarea_document.proofs.Betweens.{between_ends}
use Rattle.tui_textarea.specs.Splices.{selected_splices_or}
use Rattle.tui_textarea.specs.Units.{AreAtStops, FirstTakesWhole, IsAtStop, TakesWholeClusters, before_cursor, past_cursor}
use Rattle.tui_textarea.proofs.Cases.{apart, by_test}
use Rattle.tui_textarea.proofs.Removing.{range_removal_made, selected_made, some_number}
use Rattle.tui_textarea.proofs.RowPlaces.{next_row}

-- ---- stops of a text

pub start_stop : (document : DocumentState) (row : ℕ) → IsAtStop document (row, 0)
start_stop document row = start_is_stop document.ranges (line_of (lines document.text) row) row

pub end_stop : (document : DocumentState) (row : ℕ) → IsSound document → IsAtStop document (line_end (lines document.text) row)
end_stop document row h = end_is_stop (lines document.text) document.ranges row h.ranges

-- the text's end is the end of its last line
pub text_end_stop : (document : DocumentState) → IsSound document → IsAtStop document (place_of document.text (length document.text))
text_end_stop document h =
    let rows = lines document.text in
    let row = length rows - 1 in
    let at = ends_text rows row (length (line_of rows row)) (omega (arith, h.cursor.0)) refl in
    let place : line_end rows row ≡ place_of document.text (length document.text) =
    subst (λ t. line_end rows row ≡ place_of t (length t)) (joined-lines document.text) at.value in
    subst (IsAtStop document) place (end_stop document row h)

none_found : (found : Option AtomicRange) → not (is_some found) ≡ true → found ≡ None
none_found None e = refl
none_found (Some range) e = absurd (false≢true e)

no_range : (document : DocumentState) (place : Place) → IsAtStop document place → range_around document.ranges place ≡ None
no_range document place at =
    let edge = is_cluster_edge (line_of (lines document.text) place.0) place.1 in
    none_found (range_around document.ranges place) (and_parts edge (not (is_some (range_around document.ranges place))) at).1

outside_range : (document : DocumentState) (place : Place) (range : AtomicRange) → IsAtStop document place → Contains document.ranges range → ¬ IsInside place range
outside_range document place range at within =
    let ranges = document.ranges in
    let none : All (λ r. ¬ IsInside place r) ranges =
    subst (λ found. MatchOption found (All (λ r. ¬ IsInside place r) ranges) (λ r. Contains ranges r × IsInside place r)) (no_range document place at) (MatchOption-inside ranges place) in
    All-contains (λ r. ¬ IsInside place r) ranges range none within

pub stays_at_stop : (document : DocumentState) (place : Place) (bias : AtomicCursorBias) → IsAtStop document place → moved_out document.ranges place bias ≡ place
stays_at_stop document place bias at = ap (λ (found : Option AtomicRange). range_edge_or found place bias) (no_range document place at)

pub either_at : (document : DocumentState) (test : Bool) (one other : Place) → IsAtStop document one → IsAtStop document other → IsAtStop document (cond test one other)
either_at document true one other h k = h
either_at document false one other h k = k

-- ---- from one stop to another

whole_between : (document : DocumentState) (from to : Place) → HasEffect document (Remove from to) → IsAtStop document from → IsAtStop document to → TakesWholeClusters document (widened_removal document from to)
whole_between document from to made start stop =
    let text = document.text in
    let narrow : widened_removal document from to ≡ removal text from to =
    ap (λ (p : Place). removal text p (moved_out document.ranges to Forward)) (stays_at_stop document from Backward start)
    ∙ ap (removal text from) (stays_at_stop document to Forward stop) in
    let whole : TakesWholeClusters document (removal text from to) = record {
      start = start;
      stop = subst (IsAtStop document) (between_ends text from to made.0 made.1 (omega (arith, made.2))) stop;
    } in
    subst (TakesWholeClusters document) (sym narrow) whole

pub removal_whole : (document : DocumentState) (from to : Place) → HasEffect document (Remove from to) → IsAtStop document from → IsAtStop document to
    → FirstTakesWhole document (removal_splices document from to)
removal_whole document from to made start stop = λ removes. whole_between document from to made start stop

-- ---- the selected text

anchor_at : (document : DocumentState) (anchor : Option Place) → IfSome anchor (IsAtStop document) → IsAtStop document document.cursor → IsAtStop document (unwrap_or anchor document.cursor)
anchor_at document None h k = k
anchor_at document (Some place) h k = h

pub selection_whole : (document : DocumentState) → IsSound document → AreAtStops document → is_selected document ≡ true
    → FirstTakesWhole document (removal_splices document (selection_start document) (selection_end document))
selection_whole document h stops selected =
    let from = anchor_at document document.anchor stops.anchor stops.cursor in
    removal_whole document (selection_start document) (selection_end document) (selected_made document h selected)
    (either_at document _ document.cursor (origin document) stops.cursor from) (either_at document _ (origin document) document.cursor from stops.cursor)

pub selected_whole : (document : DocumentState) → IsSound document → AreAtStops document → FirstTakesWhole document (selected_splices document)
selected_whole document h stops =
    by_test (FirstTakesWhole document) (is_selected document) (removal_splices document (selection_start document) (selection_end document)) []
    (λ some. selection_whole document h stops some) (λ none. tt)

pub selected_or_whole : (document : DocumentState) (other : List Splice) → IsSound document → AreAtStops document → FirstTakesWhole document other → FirstTakesWhole document (selected_splices_or document other)
selected_or_whole document other h stops others =
    by_test (FirstTakesWhole document) (is_selected document) (selected_splices document) other (λ some. selected_whole document h stops) (λ none. others)

-- ---- a break

pub break_whole : (document : DocumentState) → IsSound document → FirstTakesWhole document (break_splices document)
break_whole document h =
    by_test (FirstTakesWhole document) (document.cursor.0 == 0) [] (splice_of_step document RemoveBreak ∷ []) (λ none. tt)
    (λ some removes. record { start = end_stop document (document.cursor.0 - 1) h; stop = start_stop document (document.cursor.0 - 1 + 1) })

-- ---- one symbol

symbol_ends : (text : List Symbol) (index : ℕ) → place_of text (index + 1) ≡ end (place_of text index) (take 1 (drop index text))
symbol_ends text index = ap (end (0, 0)) (take-add index 1 text) ∙ end-append (0, 0) (take index text) (take 1 (drop index text))

symbol_whole : (document : DocumentState) (index : ℕ) → IsAtStop document (place_of document.text index) → IsAtStop document (place_of document.text (index + 1))
    → TakesWholeClusters document (symbol_removal document.text index)
symbol_whole document index start stop = record { start = start; stop = subst (IsAtStop document) (symbol_ends document.text index) stop }

-- a stop by its index
stop_by_index : (document : DocumentState) (place : Place) (index : ℕ) → IsPlace document.text place → index_of document.text place ≡ index → IsAtStop document place → IsAtStop document (place_of document.text index)
stop_by_index document place index at is stop =
    subst (IsAtStop document) (sym (place_of-index document.text place at) ∙ ap (place_of document.text) is) stop

-- the position of the symbol before the cursor
before_stop : (document : DocumentState) → IsSound document → IsAtStop document (before_cursor document) → 0 < cursor_index document → IsAtStop document (place_of document.text (cursor_index document - 1))
before_stop document h at some =
    let text = document.text in
    let rows = lines text in
    elim (cases_lt 0 document.cursor.1) [
      | inl inside ↦ stop_by_index document (before_cursor document) (cursor_index document - 1) (h.cursor.0, omega (arith, h.cursor.1)) (omega (arith, inside)) at
      | inr start ↦ elim (cases_lt 0 document.cursor.0) [
        | inl later ↦
            let row = document.cursor.0 - 1 in
            let same : row + 1 ≡ document.cursor.0 = omega (arith, later) in
            let next = next_row text row (omega (arith, h.cursor.0, same)) in
            let index : index_of text (line_end rows row) ≡ cursor_index document - 1 = omega (arith, next, ap (row_start text) same, start) in
            stop_by_index document (line_end rows row) (cursor_index document - 1) (omega (arith, h.cursor.0), omega arith) index (end_stop document row h)
        | inr first ↦
            let zero : document.cursor.0 ≡ 0 = omega (arith, first) in
            absurd (omega (arith, some, ap (row_start text) zero, start))
      ]
    ]

-- the position after the symbol at the cursor
past_stop : (document : DocumentState) → IsSound document → (document.cursor.1 < length (line_of (lines document.text) document.cursor.0) → IsAtStop document (past_cursor document))
    → cursor_index document ≢ length document.text → IsAtStop document (place_of document.text (cursor_index document + 1))
past_stop document h at some =
    let text = document.text in
    let rows = lines text in
    let row = document.cursor.0 in
    elim (cases_lt document.cursor.1 (length (line_of rows row))) [
      | inl inside ↦ stop_by_index document (past_cursor document) (cursor_index document + 1) (h.cursor.0, omega (arith, inside)) (omega arith) (at inside)
      | inr stop ↦ elim (cases_lt (row + 1) (length rows)) [
        | inl more ↦
            let index : index_of text (row + 1, 0) ≡ cursor_index document + 1 = omega (arith, next_row text row more, stop, h.cursor.1) in
            stop_by_index document (row + 1, 0) (cursor_index document + 1) (more, omega arith) index (start_stop document (row + 1))
        | inr last ↦
            let all = (ends_text rows row document.cursor.1 (omega (arith, last, h.cursor.0)) (omega (arith, stop, h.cursor.1))).index_is in
            absurd (some (subst (λ t. index_of t document.cursor ≡ length t) (joined-lines text) all))
      ]
    ]

-- ---- the range beside the cursor

range_at : (document : DocumentState) (direction : AtomicDeleteDirection) (range : AtomicRange) → range_at_place document.ranges document.cursor direction ≡ Some range
    → Contains document.ranges range × IsRangeAtPlace document.cursor direction range
range_at document direction range is =
    let ranges = document.ranges in
    let place = document.cursor in
    subst (λ found. MatchOption found (All (λ r. ¬ IsRangeAtPlace place direction r) ranges) (λ r. Contains ranges r × IsRangeAtPlace place direction r)) is
    (MatchOption-at_place ranges place direction)

-- it has only the character before the cursor, if the positions before and after that are stops
range_before_is : (document : DocumentState) (range : AtomicRange) → range_before document ≡ Some range → IsAtStop document document.cursor → IsAtStop document (before_cursor document)
    → (range_start range ≡ before_cursor document) × (range_end range ≡ document.cursor)
range_before_is document range is here before =
    let cursor = document.cursor in
    let found = range_at document DeleteBackward range is in
    let in_row : range.row ≡ cursor.0 = found.1.0 in
    let starts : range.start_col < cursor.1 = found.1.1 in
    let ends : cursor.1 ≤ range.end_col = found.1.2 in
    let out = outside_range document cursor range here found.0 in
    let out_before = outside_range document (before_cursor document) range before found.0 in
    let start : range.start_col ≡ cursor.1 - 1 = elim (cases_lt range.start_col (cursor.1 - 1)) [
      | inl less ↦ absurd (out_before (in_row, less, omega (arith, starts, ends)))
      | inr more ↦ omega (arith, starts, more)
    ] in
    let stop : range.end_col ≡ cursor.1 = elim (cases_lt cursor.1 range.end_col) [
      | inl less ↦ absurd (out (in_row, starts, less))
      | inr more ↦ omega (arith, ends, more)
    ] in
    (pair_is (range_start range) cursor.0 (cursor.1 - 1) in_row start, pair_is (range_end range) cursor.0 cursor.1 in_row stop)

-- the same of the character after it
range_after_is : (document : DocumentState) (range : AtomicRange) → IsSound document → range_after document ≡ Some range → IsAtStop document document.cursor
    → (document.cursor.1 < length (line_of (lines document.text) document.cursor.0) → IsAtStop document (past_cursor document))
    → (range_start range ≡ document.cursor) × (range_end range ≡ past_cursor document) × IsAtStop document (past_cursor document)
range_after_is document range h is here past =
    let cursor = document.cursor in
    let rows = lines document.text in
    let found = range_at document DeleteForward range is in
    let in_row : range.row ≡ cursor.0 = found.1.0 in
    let starts : range.start_col ≤ cursor.1 = found.1.1 in
    let ends : cursor.1 < range.end_col = found.1.2 in
    let in_line : IsRangeOfLine rows range = All-contains (IsRangeOfLine rows) document.ranges range h.ranges.components found.0 in
    let inside : cursor.1 < length (line_of rows cursor.0) = omega (arith, ends, in_line.2, ap (λ r. length (line_of rows r)) in_row) in
    let after = past inside in
    let out = outside_range document cursor range here found.0 in
    let out_past = outside_range document (past_cursor document) range after found.0 in
    let start : range.start_col ≡ cursor.1 = elim (cases_lt range.start_col cursor.1) [
      | inl less ↦ absurd (out (in_row, less, ends))
      | inr more ↦ omega (arith, starts, more)
    ] in
    let stop : range.end_col ≡ cursor.1 + 1 = elim (cases_lt (cursor.1 + 1) range.end_col) [
      | inl less ↦ absurd (out_past (in_row, omega (arith, starts), less))
      | inr more ↦ omega (arith, ends, more)
    ] in
    (pair_is (range_start range) cursor.0 cursor.1 in_row start, pair_is (range_end range) cursor.0 (cursor.1 + 1) in_row stop, after)

-- ---- the symbol or the range beside the cursor

pub before_whole : (document : DocumentState) → IsSound document → IsAtStop document document.cursor → IsAtStop document (before_cursor document) → FirstTakesWhole document (before_splices document)
before_whole document h here before = by (range_before document) refl
  where
    symbol : List Splice
    symbol = cond (is_at_start document) [] (splice_of_step document RemoveBefore ∷ [])

    by : (found : Option AtomicRange) → range_before document ≡ found → FirstTakesWhole document (range_splices_or found document symbol)
    by None is =
        by_test (FirstTakesWhole document) (is_at_start document) [] (splice_of_step document RemoveBefore ∷ []) (λ none. tt)
        (λ inside removes.
        let index = cursor_index document - 1 in
        let more = some_number (cursor_index document) inside in
        let next : cursor_index document ≡ index + 1 = omega (arith, more) in
        symbol_whole document index (before_stop document h before more) (stop_by_index document document.cursor (index + 1) h.cursor next here))
    by (Some range) is =
        let ends = range_before_is document range is here before in
        removal_whole document (range_start range) (range_end range) (range_removal_made document DeleteBackward range h is)
        (subst (IsAtStop document) (sym ends.0) before) (subst (IsAtStop document) (sym ends.1) here)

pub after_whole : (document : DocumentState) → IsSound document → IsAtStop document document.cursor
    → (document.cursor.1 < length (line_of (lines document.text) document.cursor.0) → IsAtStop document (past_cursor document)) → FirstTakesWhole document (after_splices document)
after_whole document h here past = by (range_after document) refl
  where
    symbol : List Splice
    symbol = cond (is_at_end document) [] (splice_of_step document RemoveAfter ∷ [])

    by : (found : Option AtomicRange) → range_after document ≡ found → FirstTakesWhole document (range_splices_or found document symbol)
    by None is =
        by_test (FirstTakesWhole document) (is_at_end document) [] (splice_of_step document RemoveAfter ∷ []) (λ none. tt)
        (λ inside removes.
        let index = cursor_index document in
        symbol_whole document index (stop_by_index document document.cursor index h.cursor refl here)
        (past_stop document h past (apart index (length document.text) inside)))
    by (Some range) is =
        let ends = range_after_is document range h is here past in
        removal_whole document (range_start range) (range_end range) (range_removal_made document DeleteForward range h is)
        (subst (IsAtStop document) (sym ends.0) here) (subst (IsAtStop document) (sym ends.1) ends.2)
