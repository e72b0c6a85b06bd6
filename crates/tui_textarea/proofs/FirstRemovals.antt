-- The first removal of each call takes whole clusters, if the cursor goes by clusters.
use Rattle.std.proofs.Common.{◌≡◌, ◌<◌, ◌≤◌, ◌⊎◌, ◌==◌, ℕ, Bool, true, false, cond, List, [], ◌∷◌, ◌++◌, length, Option, None, Some, IfSome, ap, arith, inl, inr, refl, subst, sym}
use Rattle.std.proofs.lemmas.Bool.{cases_lt, cond-true, eq-eqb, eqb-true, false≢true}
use Rattle.std.specs.Prelude.{if◌then◌else◌}
use Rattle.std.specs.Str.{chars}
use Rattle.textarea_calls.specs.declared.action.Action.{Action}
use Rattle.textarea_calls.specs.declared.action.Action.TheVariants as action
use Rattle.textarea_calls.specs.declared.call.Call.{Call}
use Rattle.textarea_calls.specs.declared.call.Call.TheVariants as call
use Rattle.textarea_data.specs.declared.cursor.CursorUnit.TheVariants as unit
use Rattle.textarea_data.specs.declared.cursor.CursorUnit.{CursorUnit}
use Rattle.textarea_data.specs.declared.range.AtomicCursorBias.TheVariants.{Backward, Forward}
use Rattle.textarea_data.specs.declared.range.AtomicDeleteDirection.{AtomicDeleteDirection}
use Rattle.textarea_data.specs.declared.range.AtomicDeleteDirection.TheVariants.{Backward as DeleteBackward, Forward as DeleteForward}
use Rattle.textarea_data.specs.declared.range.AtomicRange.{AtomicRange}
use Rattle.textarea_ranges.specs.Lookup.{range_end, range_start}
use Rattle.textarea_text.specs.Fragment.{fragment_symbols, pasted_symbols}
use Rattle.textarea_text.specs.Place.{IsPlace, Place, is_before, line_of, place_of}
use Rattle.textarea_text.specs.Splice.{Splice}
use Rattle.textarea_text.specs.Text.{Break, Character, Symbol, lines}
use Rattle.textarea_text.proofs.Befores.{pair_is}
use Rattle.textarea_document.specs.DocumentState.{DocumentState}
use Rattle.textarea_document.specs.Edits.{HasEffect, Remove, has_symbols, range_after, range_at_cursor, range_before}
use Rattle.textarea_document.specs.Indenting.{tab_of}
use Rattle.textarea_document.specs.Replacing.{stretch_end, stretch_start}
use Rattle.textarea_document.specs.Selection.{is_selected, selection_end, selection_start}
use Rattle.textarea_document.specs.Sound.{IsSound}
use Rattle.textarea_document.specs.Splices.{break_splices, insertion_splices, removal_splices}
use Rattle.textarea_document.specs.Target.{word_end_after, word_start_before}
use Rattle.tui_textarea.specs.CallSplices.{any_splices, splices_by, splices_of}
use Rattle.tui_textarea.specs.CallUnits.{TakesParts, TakesPartsBy}
use Rattle.tui_textarea.specs.Calls.{call_splices, unguarded_splices}
use Rattle.tui_textarea.specs.Edits.{breaks_line, fitting_spaces}
use Rattle.tui_textarea.specs.Guards.{admitted, admitted_for, admitted_over_selection, admitted_whole, is_barred, whole_range_splices}
use Rattle.tui_textarea.specs.Input.{asked_by, asked_without_shortcuts, call_of_action}
use Rattle.tui_textarea.specs.LayoutCalls.{tab_length}
use Rattle.tui_textarea.specs.Removals.{cursor_line, in_line, is_at_line_end}
use Rattle.tui_textarea.specs.Replacing.{match_at_cursor}
use Rattle.tui_textarea.specs.Selection.{unselected}
use Rattle.tui_textarea.specs.Splices.{char_splices, clear_splices, line_end_splices, line_head_splices, selected_splices_or, splices_from, splices_up_to, str_splices, symbol_after_splices, symbol_before_splices, tab_splices}
use Rattle.tui_textarea.specs.Splices.{whole_range_splices_or, word_after_splices, word_before_splices}
use Rattle.tui_textarea.specs.State.{State}
use Rattle.tui_textarea.specs.Units.{AreAtStops, FirstTakesWhole, GoesByClusters, IsAtStop, IsSettled, IsSettledBy, before_cursor, earlier_start_by, if_elsewhere, later_end_by, past_cursor, stop_of}
use Rattle.tui_textarea.specs.Units.{whole_by, whole_end, whole_start, whole_stretch, whole_stretch_by}
use Rattle.tui_textarea.proofs.Cases.{by_test}
use Rattle.tui_textarea.proofs.MatchStops.{match_whole, matches_whole}
use Rattle.tui_textarea.proofs.Removing.{line_end_made, line_head_made, range_removal_made, whole_made, word_end_made, word_start_made}
use Rattle.tui_textarea.proofs.Replacing.{stretch_is}
use Rattle.tui_textarea.proofs.Settling.{stop_is_stop, stop_place}
use Rattle.tui_textarea.proofs.Stepping.{some_symbols}
use Rattle.tui_textarea.proofs.WholeEnds.{after_whole, before_whole, break_whole, end_stop, removal_whole, selected_or_whole, selected_whole, selection_whole, start_stop, text_end_stop}
use Rattle.tui_textarea.proofs.WholeLines.{TakesNoPart, shifts_whole}
use Rattle.tui_textarea.proofs.WholeRemovals.{ahead_made, back_made, past_end, removes_from_whole, removes_up_to_whole, removes_whole}
use Rattle.tui_textarea.proofs.WholeStretches.{IsEdge, down_whole, insertion_whole, range_whole, up_whole}

-- ---- positions that are another one than before

elsewhere_at : (document : DocumentState) (place found : Place) → IsAtStop document found → IfSome (if_elsewhere place found) (IsAtStop document)
elsewhere_at document place found at = by (found.1 == place.1)
  where
    by : (same : Bool) → IfSome (if same then None else Some found) (IsAtStop document)
    by true = tt
    by false = at

not_elsewhere : (place found : Place) → found.0 ≡ place.0 → if_elsewhere place found ≡ None → found ≡ place
not_elsewhere place found row none = by (found.1 == place.1) refl none
  where
    by : (same : Bool) → (found.1 == place.1) ≡ same → (if same then None else Some found) ≡ None → found ≡ place
    by true e is = pair_is found place.0 place.1 row (eqb-true found.1 place.1 e)
    by false e is = absurd cc

-- ---- the character beside the cursor

from_whole : (document : DocumentState) (found : Option Place) → IsSound document → IsAtStop document document.cursor → IfSome found (λ start. HasEffect document (Remove start document.cursor))
    → IfSome found (IsAtStop document) → (found ≡ None → IsAtStop document (before_cursor document)) → FirstTakesWhole document (splices_from found document)
from_whole document None h here made at none = before_whole document h here (none refl)
from_whole document (Some start) h here made at none = removal_whole document start document.cursor made at here

up_to_whole : (document : DocumentState) (found : Option Place) → IsSound document → IsAtStop document document.cursor → IfSome found (λ stop. HasEffect document (Remove document.cursor stop))
    → IfSome found (IsAtStop document) → (found ≡ None → document.cursor.1 < length (line_of (lines document.text) document.cursor.0) → IsAtStop document (past_cursor document))
    → FirstTakesWhole document (splices_up_to found document)
up_to_whole document None h here made at none = after_whole document h here (none refl)
up_to_whole document (Some stop) h here made at none = removal_whole document document.cursor stop made here at

back_whole : (document : DocumentState) → IsSound document → IsAtStop document document.cursor → FirstTakesWhole document (splices_from (earlier_start_by unit.Cluster document) document)
back_whole document h here =
    let before = before_cursor document in
    let found = stop_of Backward document before in
    let at = stop_is_stop Backward document before h (h.cursor.0, omega (arith, h.cursor.1)) in
    from_whole document (if_elsewhere before found) h here (back_made document found h refl) (elsewhere_at document before found at)
    (λ none. subst (IsAtStop document) (not_elsewhere before found refl none) at)

ahead_whole : (document : DocumentState) → IsSound document → IsAtStop document document.cursor → FirstTakesWhole document (splices_up_to (later_end_by unit.Cluster document) document)
ahead_whole document h here =
    up_to_whole document (if_elsewhere past found) h here (ahead_made document found h refl) (elsewhere (cases_lt document.cursor.1 size))
    (λ none inside. subst (IsAtStop document) (not_elsewhere past found refl none) (at inside))
  where
    past : Place
    past = past_cursor document

    found : Place
    found = stop_of Forward document past

    size : ℕ
    size = length (line_of (lines document.text) document.cursor.0)

    at : document.cursor.1 < size → IsAtStop document found
    at inside = stop_is_stop Forward document past h (h.cursor.0, omega (arith, inside))

    -- at the line's end there is no such position
    elsewhere : (document.cursor.1 < size) ⊎ (size ≤ document.cursor.1) → IfSome (if_elsewhere past found) (IsAtStop document)
    elsewhere (inl inside) = elsewhere_at document past found (at inside)
    elsewhere (inr stop) =
        let same : found ≡ past = past_end document (omega (arith, stop, h.cursor.1)) in
        let none : if_elsewhere past found ≡ None = cond-true (found.1 == past.1) None (Some found) (eq-eqb found.1 past.1 (ap (λ (p : Place). p.1) same)) in
        subst (λ o. IfSome o (IsAtStop document)) (sym none) tt

module _ (state : State) (h : IsSound state.document) (goes : GoesByClusters state) (here : IsAtStop state.document state.document.cursor) where
  abbrev Whole : List Splice → Type 0
  Whole splices = FirstTakesWhole state.document splices

  symbol_before : Whole (symbol_before_splices state)
  symbol_before = subst (λ (found : CursorUnit). Whole (splices_from (earlier_start_by found state.document) state.document)) (sym goes) (back_whole state.document h here)

  symbol_after : Whole (symbol_after_splices state)
  symbol_after = subst (λ (found : CursorUnit). Whole (splices_up_to (later_end_by found state.document) state.document)) (sym goes) (ahead_whole state.document h here)

  -- ---- lines, words and ranges

  start_at : (place : Place) → IsPlace state.document.text place → IsAtStop state.document (whole_start state place)
  start_at place at = subst (λ (found : CursorUnit). IsAtStop state.document (whole_by found Backward state.document place)) (sym goes) (stop_is_stop Backward state.document place h at)

  end_at : (place : Place) → IsPlace state.document.text place → IsAtStop state.document (whole_end state place)
  end_at place at = subst (λ (found : CursorUnit). IsAtStop state.document (whole_by found Forward state.document place)) (sym goes) (stop_is_stop Forward state.document place h at)

  range_or : (direction : AtomicDeleteDirection) (found : Option AtomicRange) (other : List Splice) → range_at_cursor state.document direction ≡ found → Whole other → Whole (whole_range_splices_or found state other)
  range_or direction None other is others = others
  range_or direction (Some range) other is others =
      let made = range_removal_made state.document direction range h is in
      removal_whole state.document (whole_start state (range_start range)) (whole_end state (range_end range)) (removes_whole state (range_start range) (range_end range) h made)
      (start_at (range_start range) made.0) (end_at (range_end range) made.1)

  line_end : Whole (line_end_splices state)
  line_end =
      let document = state.document in
      let stop = in_line document (length (cursor_line document)) in
      by_test Whole (is_at_line_end document) (symbol_after_splices state) (removal_splices document document.cursor stop) (λ at. symbol_after)
      (λ inside. removal_whole document document.cursor stop (line_end_made document h inside) here (end_stop document document.cursor.0 h))

  line_head : Whole (line_head_splices state.document)
  line_head =
      let document = state.document in
      by_test Whole (document.cursor.1 == 0) (break_splices document) (removal_splices document (in_line document 0) document.cursor) (λ at. break_whole document h)
      (λ inside. removal_whole document (in_line document 0) document.cursor (line_head_made document h inside) (start_stop document document.cursor.0) here)

  word_before : Whole (word_before_splices state)
  word_before =
      let document = state.document in
      let from = in_line document (word_start_before (cursor_line document) document.cursor.1) in
      let other = cond (document.cursor.1 == 0) (break_splices document) (removal_splices document (whole_start state from) document.cursor) in
      range_or DeleteBackward (range_before document) other refl
      (by_test Whole (document.cursor.1 == 0) (break_splices document) (removal_splices document (whole_start state from) document.cursor) (λ at. break_whole document h)
      (λ inside.
      let made = word_start_made document h inside in
      removal_whole document (whole_start state from) document.cursor (removes_from_whole state from document.cursor h made) (start_at from made.0) here))

  word_after : Whole (word_after_splices state)
  word_after =
      let document = state.document in
      let to = in_line document (word_end_after (cursor_line document) document.cursor.1) in
      let other = cond (is_at_line_end document) (symbol_after_splices state) (removal_splices document document.cursor (whole_end state to)) in
      range_or DeleteForward (range_after document) other refl
      (by_test Whole (is_at_line_end document) (symbol_after_splices state) (removal_splices document document.cursor (whole_end state to)) (λ at. symbol_after)
      (λ inside.
      let made = word_end_made document h inside in
      removal_whole document document.cursor (whole_end state to) (removes_up_to_whole state document.cursor to h made) here (end_at to made.1)))

  -- ---- all text, and that between two positions

  all_text : Whole (clear_splices state.document)
  all_text =
      let document = state.document in
      let stop = place_of document.text (length document.text) in
      by_test Whole (has_symbols document.text) (removal_splices document (0, 0) stop) []
      (λ filled. removal_whole document (0, 0) stop (whole_made document (some_symbols document.text filled)) (start_stop document 0) (text_end_stop document h))
      (λ empty. tt)

  abbrev AreEdges : Place × Place → Type 0
  AreEdges ends = IsEdge state.document ends.0 × IsEdge state.document ends.1

  stretch_edges : (from to : Place) → AreEdges (whole_stretch state from to)
  stretch_edges from to =
      let document = state.document in
      let start = stretch_start document.text from to in
      let stop = stretch_end document.text from to in
      let places = stretch_is document from to h in
      let back : IsEdge document (stop_of Backward document start) = (stop_place Backward document start places.0, stop_is_stop Backward document start h places.0) in
      let on : IsEdge document (stop_of Forward document start) = (stop_place Forward document start places.0, stop_is_stop Forward document start h places.0) in
      let further : IsEdge document (stop_of Forward document stop) = (stop_place Forward document stop places.1, stop_is_stop Forward document stop h places.1) in
      subst (λ (found : CursorUnit). AreEdges (whole_stretch_by found document from to)) (sym goes)
      (by_test AreEdges (is_before start stop) (stop_of Backward document start, stop_of Forward document stop) (stop_of Forward document start, stop_of Forward document start)
      (λ some. (back, further)) (λ none. (on, on)))

  between : (from to : Place) (symbols : List Symbol) → Whole (whole_range_splices state from to symbols)
  between from to symbols =
      let ends = whole_stretch state from to in
      let edges = stretch_edges from to in
      range_whole state.document ends.0 ends.1 (admitted_whole state from to symbols) state.time edges.0 edges.1

  outdented : TakesNoPart (Some state.settings.cursor_unit)
  outdented = subst (λ (found : CursorUnit). TakesNoPart (Some found)) (sym goes) tt

-- ---- insertions

str_whole : (state : State) (symbols : List Symbol) → IsSound state.document → AreAtStops state.document → FirstTakesWhole state.document (str_splices state symbols)
str_whole state symbols h stops =
    let document = state.document in
    let inserted = insertion_splices (unselected state).document symbols in
    by_test (λ splices. FirstTakesWhole document (splices ++ inserted)) (is_selected document) (removal_splices document (selection_start document) (selection_end document)) []
    (λ some. selection_whole document h stops some) (λ none. insertion_whole document (unselected state).document symbols)

char_whole : (state : State) (c : ℕ) → IsSound state.document → AreAtStops state.document → FirstTakesWhole state.document (char_splices state c)
char_whole state c h stops =
    by_test (FirstTakesWhole state.document) (breaks_line c) (str_splices state (Break ∷ [])) (str_splices state (Character c ∷ []))
    (λ breaks. str_whole state (Break ∷ []) h stops) (λ other. str_whole state (Character c ∷ []) h stops)

tab_whole : (state : State) → IsSound state.document → AreAtStops state.document → FirstTakesWhole state.document (tab_splices state)
tab_whole state h stops =
    let whole = FirstTakesWhole state.document in
    let spaces = fitting_spaces (unselected state) (tab_length state.document) in
    by_test whole (tab_length state.document == 0) (str_splices state []) _ (λ none. str_whole state [] h stops)
    (λ some. by_test whole state.settings.hard_tab_indent (str_splices state (Character 9 ∷ [])) (str_splices state spaces)
    (λ hard. str_whole state (Character 9 ∷ []) h stops) (λ soft. str_whole state spaces h stops))

-- ---- each call

module _ (state : State) (h : IsSound state.document) (goes : GoesByClusters state) (stops : AreAtStops state.document) where
  selected_or : (other : List Splice) → FirstTakesWhole state.document other → FirstTakesWhole state.document (selected_splices_or state.document other)
  selected_or other others = selected_or_whole state.document other h stops others

  unguarded_whole : (made : Call) → ¬ TakesParts made → FirstTakesWhole state.document (unguarded_splices state made)
  unguarded_whole (call.InsertChar c) parts = char_whole state c h stops
  unguarded_whole (call.InsertStr text) parts = str_whole state (admitted_over_selection state (fragment_symbols (chars text.now))) h stops
  unguarded_whole (call.InsertPasted text) parts = str_whole state (admitted_over_selection state (pasted_symbols (chars text.now))) h stops
  unguarded_whole call.InsertTab parts = tab_whole state h stops
  unguarded_whole call.InsertNewline parts = str_whole state (Break ∷ []) h stops
  unguarded_whole call.Paste parts = str_whole state (admitted_over_selection state state.yank) h stops
  unguarded_whole call.DuplicateLine parts = λ removes. absurd (false≢true (sym removes))
  unguarded_whole call.IndentLines parts = shifts_whole state.document None (tab_of state.document state.settings.hard_tab_indent) state.time tt h
  unguarded_whole call.OutdentLines parts = shifts_whole state.document (Some state.settings.cursor_unit) [] state.time (outdented state h goes stops.cursor) h
  unguarded_whole call.MoveLinesUp parts = up_whole state.document state.time h
  unguarded_whole call.MoveLinesDown parts = down_whole state.document state.time h
  unguarded_whole (call.ReplaceRange from to text) parts = between state h goes stops.cursor from to (fragment_symbols (chars text.now))
  unguarded_whole (call.ReplaceMatch text) parts = match_whole state (admitted_for (match_at_cursor state) state (fragment_symbols (chars text.now))) h goes
  unguarded_whole (call.ReplaceAll text) parts = matches_whole state (admitted state (fragment_symbols (chars text.now))) h goes
  unguarded_whole (call.DeleteStr count) parts = absurd (parts tt)
  unguarded_whole call.DeleteNewline parts = selected_or (break_splices state.document) (break_whole state.document h)
  unguarded_whole call.DeleteChar parts = selected_or (symbol_before_splices state) (symbol_before state h goes stops.cursor)
  unguarded_whole call.DeleteNextChar parts = selected_or (symbol_after_splices state) (symbol_after state h goes stops.cursor)
  unguarded_whole call.DeleteLineByEnd parts = selected_or (line_end_splices state) (line_end state h goes stops.cursor)
  unguarded_whole call.DeleteLineByHead parts = selected_or (line_head_splices state.document) (line_head state h goes stops.cursor)
  unguarded_whole call.DeleteWord parts = selected_or (word_before_splices state) (word_before state h goes stops.cursor)
  unguarded_whole call.DeleteNextWord parts = selected_or (word_after_splices state) (word_after state h goes stops.cursor)
  unguarded_whole call.Clear parts = all_text state h goes stops.cursor
  unguarded_whole call.Cut parts = selected_whole state.document h stops
  unguarded_whole call.Undo parts = absurd (parts tt)
  unguarded_whole call.Redo parts = absurd (parts tt)
  unguarded_whole (call.DeleteAtomicRangeAtCursor direction) parts = range_or state h goes stops.cursor direction (range_at_cursor state.document direction) [] refl tt
  unguarded_whole made parts = tt

  guarded_whole : (made : Call) → ¬ TakesParts made → FirstTakesWhole state.document (call_splices state made)
  guarded_whole made parts =
      by_test (FirstTakesWhole state.document) (is_barred state made) [] (unguarded_splices state made) (λ barred. tt) (λ free. unguarded_whole made parts)

  -- ---- inputs

  any_whole : (found : Option Call) → IfSome found (λ made. ¬ TakesParts made) → FirstTakesWhole state.document (any_splices state found)
  any_whole None parts = tt
  any_whole (Some made) parts = guarded_whole made parts

  action_whole : (asked : Action) → ¬ TakesPartsBy asked → FirstTakesWhole state.document (splices_by state asked)
  action_whole asked parts = any_whole (call_of_action asked) (no_parts asked parts)
    where
      no_parts : (asked : Action) → ¬ TakesPartsBy asked → IfSome (call_of_action asked) (λ made. ¬ TakesParts made)
      no_parts (action.InsertChar c) parts = parts
      no_parts action.InsertNewline parts = parts
      no_parts action.InsertTab parts = parts
      no_parts action.Paste parts = parts
      no_parts action.DeleteChar parts = parts
      no_parts action.DeleteNextChar parts = parts
      no_parts action.DeleteLineByEnd parts = parts
      no_parts action.DeleteLineByHead parts = parts
      no_parts action.DeleteWord parts = parts
      no_parts action.DeleteNextWord parts = parts
      no_parts action.Cut parts = parts
      no_parts action.Copy parts = parts
      no_parts action.Undo parts = parts
      no_parts action.Redo parts = parts
      no_parts other parts = tt

  each_whole : (made : Call) → ¬ TakesParts made → FirstTakesWhole state.document (splices_of state made)
  each_whole (call.Input input) parts = action_whole (asked_by input.now) parts
  each_whole (call.InputWithoutShortcuts input) parts = action_whole (asked_without_shortcuts input.now) parts
  each_whole made parts = guarded_whole made parts

pub first_whole : (state : State) (made : Call) → IsSound state.document → GoesByClusters state → IsSettled state → ¬ TakesParts made
    → FirstTakesWhole state.document (splices_of state made)
first_whole state made h goes settled parts =
    each_whole state h goes (subst (λ (found : CursorUnit). IsSettledBy found state.document) goes settled) made parts
