-- Each call and each input, by any fact of splices that edits have; and that each keeps documents sound.
use Rattle.std.proofs.Common.{◌≡◌, ℕ, List, [], ◌∷◌, length, Option, None, Some, ap, arith, false, is_some, refl, subst, sym, true, unwrap_or, ◌∙◌, inl, inr, ⊎_elim}
use Rattle.std.proofs.lemmas.List.{length-map}
use Rattle.std.specs.Str.{chars}
use Rattle.textarea_calls.specs.Possible.{CanBeMade}
use Rattle.textarea_calls.specs.declared.action.Action.{Action}
use Rattle.textarea_calls.specs.declared.action.Action.TheVariants as action
use Rattle.textarea_calls.specs.declared.call.Call.{Call}
use Rattle.textarea_calls.specs.declared.call.Call.TheVariants as call
use Rattle.textarea_data.specs.declared.cursor.CursorMove.TheVariants as move
use Rattle.textarea_data.specs.declared.range.AtomicCursorBias.TheVariants.{Forward as BiasForward}
use Rattle.textarea_ranges.specs.Lookup.{moved_out}
use Rattle.textarea_ranges.proofs.LookupLemmas.{IsPlaceOf-moved_out}
use Rattle.textarea_search.specs.PlainTexts.{text_pattern}
use Rattle.textarea_search.specs.declared.search.direction.Direction.TheVariants as toward
use Rattle.textarea_text.specs.Between.{clip}
use Rattle.textarea_text.specs.Fragment.{fragment_symbols, pasted_symbols}
use Rattle.textarea_text.specs.Place.{place_of}
use Rattle.textarea_text.specs.Splice.{Splice}
use Rattle.textarea_text.specs.Text.{characters_of, lines, lines_of, text_of}
use Rattle.textarea_text.proofs.Befores.{text_place}
use Rattle.textarea_document.specs.Changes.{no_changes, with_lines_replaced}
use Rattle.textarea_document.specs.DocumentState.{DocumentState, fresh_document}
use Rattle.textarea_document.specs.Indenting.{line_stretches, tab_of}
use Rattle.textarea_document.specs.Outcomes.{after_edit, after_redo, after_undo}
use Rattle.textarea_document.specs.Selection.{lines_duplicated, selection_duplication}
use Rattle.textarea_document.specs.Sound.{IsSound}
use Rattle.textarea_document.specs.Splices.{redo_splices, selected_splices, undo_splices}
use Rattle.textarea_document.proofs.Inserts.{duplication_splits_none, selection_duplication_fits, sound_duplicated}
use Rattle.textarea_document.proofs.Ranges.{valid_none}
use Rattle.textarea_document.specs.PastRanges.{no_past_ranges}
use Rattle.textarea_document.proofs.Sounds.{none_past, sound_begun, sound_changes, sound_ended, sound_forgotten, sound_fresh, sound_past, sound_undo_ranges, start_is_place}
use Rattle.tui_textarea.specs.CallResults.{CallResult, PatternRejected}
use Rattle.tui_textarea.specs.CallSplices.{OfSplicesOutOfMemory, splices_by, splices_of}
use Rattle.tui_textarea.specs.Calls.{StateOutOfMemory, call_splices, rejected_ranges, state_after, unguarded_after, unguarded_splices}
use Rattle.tui_textarea.specs.Drawing.{viewport_scrolled}
use Rattle.tui_textarea.specs.Guards.{admitted, admitted_for, admitted_over_selection, admitted_whole, barred_after, is_barred}
use Rattle.tui_textarea.specs.Input.{IsAfterAction, IsAnyOutOfMemory, asked_by, asked_without_shortcuts, call_of_action}
use Rattle.tui_textarea.specs.LayoutCalls.{alignment_set, line_numbers_set, mode_set, tab_length_set}
use Rattle.tui_textarea.specs.Outcomes.{IsAfterCall, IsAfterOutOfMemory, after_pattern}
use Rattle.tui_textarea.specs.Removals.{break_before_removed, line_end_removed, line_head_removed, symbol_after_removed, symbol_before_removed, symbols_ahead_removed}
use Rattle.tui_textarea.specs.Removals.{word_after_removed, word_before_removed}
use Rattle.tui_textarea.specs.Replacing.{match_at_cursor, replaceable}
use Rattle.tui_textarea.specs.Search.{after_search, next_match, previous_match}
use Rattle.tui_textarea.specs.Selection.{IsInsertOutOfMemory, unselected}
use Rattle.tui_textarea.specs.State.{State}
use Rattle.tui_textarea.specs.CallUnits.{bias_of_call, settled_after, settles}
use Rattle.tui_textarea.specs.Units.{settled, whole_stretch}
use Rattle.tui_textarea.proofs.Cases.{by_both, by_test}
use Rattle.tui_textarea.proofs.Settling.{begun_unchanged, ended_unchanged, layout_and_ranges, settled_layout, sound_settled}
use Rattle.tui_textarea.proofs.FoundPlaces.{match_is_place}
use Rattle.tui_textarea.proofs.Replacing.{AtOnce, all_once, lines_down_by, lines_shifted_once, lines_up_by, match_by, range_by, search_unchanged}
use Rattle.tui_textarea.proofs.SoundStates.{sound_at, sound_cursor, sound_from, sound_goes, sound_ranges, sound_search, sound_settings, sound_unanchored}
use Rattle.textarea_document.proofs.UndoGroups.{sound_redo, sound_undo}
use Rattle.tui_textarea.proofs.Stepping.{Reckoning, ahead_by, break_by, char_by, cleared_by, copied_by, cursor_range_by, cut_by, edited, kept, moved}
use Rattle.tui_textarea.proofs.Stepping.{line_end_by, line_head_by, moves_unchanged, newline_by, selected_by, single_by, str_by, symbol_after_by, symbol_before_by, tab_by, unselected_by}
use Rattle.tui_textarea.proofs.Stepping.{word_after_by, word_before_by}
use Rattle.tui_textarea.proofs.Targets.{clip_is_place, index_is_place}

-- a relation of two documents and the splices between them
abbrev pub Fact : Type 1
Fact = DocumentState → List Splice → DocumentState → Type 0

-- the relation for an action: undo and redo have one of their own
abbrev pub ByAct : Fact → Fact → Action → DocumentState → List Splice → DocumentState → Type 0
ByAct By Past action.Undo old splices new = Past old splices new
ByAct By Past action.Redo old splices new = Past old splices new
ByAct By Past asked old splices new = By old splices new

-- if both relations are the same, each action has it
pub by_any_act : (By : Fact) (asked : Action) (old new : DocumentState) (splices : List Splice)
    → ByAct By By asked old splices new → By old splices new
by_any_act By action.Undo old new splices h = h
by_any_act By action.Redo old new splices h = h
by_any_act By asked old new splices h = h

as_outcome : (By : Fact) (old new outcome : State) (splices : List Splice) → new ≡ outcome → By old.document splices outcome.document
    → By old.document splices new.document
as_outcome By old new outcome splices is h = subst (λ (s : State). By old.document splices s.document) (sym is) h

-- the relation for undo and redo, with and without an edit to undo or redo, and where they do nothing
pub record Past (Own : Fact) : Type 0 where
  pub undos : (document : DocumentState) → IsSound document → Own document (undo_splices document) (after_undo document)
  pub redos : (document : DocumentState) → IsSound document → Own document (redo_splices document) (after_redo document)
  pub stays : (document : DocumentState) → IsSound document → Own document [] document
  pub same : (old new other : DocumentState) (splices : List Splice) → layout_and_ranges other ≡ layout_and_ranges new → Own old splices new → Own old splices other

-- ---- calls

-- the fact of a call, by its splices and the state after it: calls that replace stretches at once
-- have one of their own, an undo and a redo too, and of calls that replace lines, ranges, the log of
-- changes or the layout, and of inputs, nothing is stated
abbrev pub ByState : Fact → Fact → Fact → Call → DocumentState → List Splice → DocumentState → Type 0
ByState By Once Past call.Undo old splices new = Past old splices new
ByState By Once Past call.Redo old splices new = Past old splices new
ByState By Once Past call.IndentLines old splices new = Once old splices new
ByState By Once Past call.OutdentLines old splices new = Once old splices new
ByState By Once Past (call.ReplaceAll text) old splices new = Once old splices new
ByState By Once Past (call.Input input) old splices new = Unit {0}
ByState By Once Past (call.InputWithoutShortcuts input) old splices new = Unit {0}
ByState By Once Past (call.SetLines lines cursor) old splices new = Unit {0}
ByState By Once Past (call.SetTabLength columns) old splices new = Unit {0}
ByState By Once Past (call.SetWrapMode mode) old splices new = Unit {0}
ByState By Once Past (call.SetLineNumberStyle style) old splices new = Unit {0}
ByState By Once Past call.RemoveLineNumber old splices new = Unit {0}
ByState By Once Past (call.SetAlignment alignment) old splices new = Unit {0}
ByState By Once Past (call.TrySetAtomicRanges ranges) old splices new = Unit {0}
ByState By Once Past call.ClearAtomicRanges old splices new = Unit {0}
ByState By Once Past (call.SetChangeLog unit) old splices new = Unit {0}
ByState By Once Past call.TakeChanges old splices new = Unit {0}
ByState By Once Past (call.Render area) old splices new = Unit {0}
ByState By Once Past made old splices new = By old splices new

-- the same, of an input by its action
abbrev pub ByCall : Fact → Fact → Fact → Call → DocumentState → List Splice → DocumentState → Type 0
ByCall By Once Past (call.Input input) old splices new = ByAct By Past (asked_by input.now) old splices new
ByCall By Once Past (call.InputWithoutShortcuts input) old splices new = ByAct By Past (asked_without_shortcuts input.now) old splices new
ByCall By Once Past made old splices new = ByState By Once Past made old splices new

-- the call of an action that has one
abbrev pub the_call : Action → Call
the_call asked = unwrap_or (call_of_action asked) call.Copy

pattern_unchanged : (state : State) (text : List ℕ) (returned : CallResult) → layout_and_ranges (after_pattern state text returned).document ≡ layout_and_ranges state.document
pattern_unchanged state text PatternRejected = refl
pattern_unchanged state text returned = refl

-- what has no condition is also true under one
given : {A B : Type 0} (Condition : Type 0) → A × B → A × (Condition → B)
given Condition both = (both.0, λ condition. both.1)

module _ (By Once Own : Fact) (by : Reckoning By) (once : AtOnce Once) (past : Past Own) where
  -- the fact of a call with these splices and this state after it, which is sound if the call can be
  -- made
  abbrev ByCallSoundly : State → Call → List Splice → State → Type 0
  ByCallSoundly old made splices new =
      ByState By Once Own made old.document splices new.document × (CanBeMade made → IsSound new.document)

  -- what is known of a document is known of it with another cursor and anchor
  same_by : (made : Call) (old new other : DocumentState) (splices : List Splice) → layout_and_ranges other ≡ layout_and_ranges new
      → ByState By Once Own made old splices new → ByState By Once Own made old splices other
  same_by call.Undo old new other splices same k = past.same old new other splices same k
  same_by call.Redo old new other splices same k = past.same old new other splices same k
  same_by call.IndentLines old new other splices same k = once.same old new other splices same k
  same_by call.OutdentLines old new other splices same k = once.same old new other splices same k
  same_by (call.ReplaceAll text) old new other splices same k = once.same old new other splices same k
  same_by (call.Input input) old new other splices same k = tt
  same_by (call.InputWithoutShortcuts input) old new other splices same k = tt
  same_by (call.SetLines lines cursor) old new other splices same k = tt
  same_by (call.SetTabLength columns) old new other splices same k = tt
  same_by (call.SetWrapMode mode) old new other splices same k = tt
  same_by (call.SetLineNumberStyle style) old new other splices same k = tt
  same_by call.RemoveLineNumber old new other splices same k = tt
  same_by (call.SetAlignment alignment) old new other splices same k = tt
  same_by (call.TrySetAtomicRanges ranges) old new other splices same k = tt
  same_by call.ClearAtomicRanges old new other splices same k = tt
  same_by (call.SetChangeLog unit) old new other splices same k = tt
  same_by call.TakeChanges old new other splices same k = tt
  same_by (call.Render area) old new other splices same k = tt
  same_by made old new other splices same k = by.same old new other splices same k

  settled_by_call : (old new : State) (made : Call) (splices : List Splice) → ByCallSoundly old made splices new → ByCallSoundly old made splices (settled_after made new)
  settled_by_call old new made splices k =
      let bias = bias_of_call made in
      by_test (ByCallSoundly old made splices) (settles made) (settled bias new) new
      (λ yes. (same_by made old.document new.document (settled bias new).document splices (settled_layout bias new) k.0, λ can. sound_settled bias new (k.1 can)))
      (λ no. k)

  -- a call in a text area that isn't read only
  pub unguarded_by : (old : State) (made : Call) → IsSound old.document → ByCallSoundly old made (unguarded_splices old made) (unguarded_after old made)
  unguarded_by old (call.InsertChar c) h = given _ (char_by By by old c h)
  unguarded_by old (call.InsertStr text) h = given _ (str_by By by old (admitted_over_selection old (fragment_symbols (chars text.now))) h)
  unguarded_by old (call.InsertPasted text) h = given _ (str_by By by old (admitted_over_selection old (pasted_symbols (chars text.now))) h)
  unguarded_by old call.InsertTab h = given _ (tab_by By by old h)
  unguarded_by old call.InsertNewline h = given _ (newline_by By by old h)
  unguarded_by old call.Paste h = given _ (str_by By by old (admitted_over_selection old old.yank) h)
  unguarded_by old call.DuplicateLine h =
      let document = old.document in
      let fits = selection_duplication_fits document h.cursor h.anchor in
      let once = edited By by document (selection_duplication document) false old.time h fits (duplication_splits_none document h) in
      given _ (moved By by document (after_edit document (selection_duplication document) false old.time) (lines_duplicated document old.time) (selection_duplication document ∷ []) refl
      (sound_duplicated document old.time h) once)
  unguarded_by old call.IndentLines h =
      given _ (lines_shifted_once Once once old.document None (line_stretches old.document None) (tab_of old.document old.settings.hard_tab_indent) old.time h)
  unguarded_by old call.OutdentLines h =
      let by_clusters = Some old.settings.cursor_unit in
      given _ (lines_shifted_once Once once old.document by_clusters (line_stretches old.document by_clusters) [] old.time h)
  unguarded_by old call.MoveLinesUp h = given _ (lines_up_by By by old.document old.time h)
  unguarded_by old call.MoveLinesDown h = given _ (lines_down_by By by old.document old.time h)
  unguarded_by old (call.ReplaceRange from to text) h =
      let ends = whole_stretch old from to in
      given _ (range_by By by old.document ends.0 ends.1 (admitted_whole old from to (fragment_symbols (chars text.now))) old.time h)
  unguarded_by old (call.ReplaceMatch text) h = given _ (match_by By by old (match_at_cursor old) (admitted_for (match_at_cursor old) old (fragment_symbols (chars text.now))) h)
  unguarded_by old (call.ReplaceAll text) h = given _ (all_once Once once old.document (replaceable old) (admitted old (fragment_symbols (chars text.now))) old.time h)
  unguarded_by old (call.DeleteStr count) h = given _ (unselected_by By by old (symbols_ahead_removed old count) _ h (ahead_by By by old count h))
  unguarded_by old call.DeleteNewline h = given _ (unselected_by By by old (break_before_removed old) _ h (break_by By by old.document old.time h))
  unguarded_by old call.DeleteChar h =
      given _ (unselected_by By by old (symbol_before_removed old) _ h (symbol_before_by By by old h))
  unguarded_by old call.DeleteNextChar h =
      given _ (unselected_by By by old (symbol_after_removed old) _ h (symbol_after_by By by old h))
  unguarded_by old call.DeleteLineByEnd h = given _ (unselected_by By by old (line_end_removed old) _ h (line_end_by By by old h))
  unguarded_by old call.DeleteLineByHead h = given _ (unselected_by By by old (line_head_removed old) _ h (line_head_by By by old h))
  unguarded_by old call.DeleteWord h = given _ (unselected_by By by old (word_before_removed old) _ h (word_before_by By by old h))
  unguarded_by old call.DeleteNextWord h = given _ (unselected_by By by old (word_after_removed old) _ h (word_after_by By by old h))
  unguarded_by old call.Clear h = given _ (cleared_by By by old h)
  unguarded_by old call.Cut h = given _ (cut_by By by old h)
  unguarded_by old (call.DeleteAtomicRangeAtCursor direction) h = given _ (cursor_range_by By by old direction h)
  unguarded_by old call.Undo h = (past.undos old.document h, λ can. sound_undo old.document h)
  unguarded_by old call.Redo h = (past.redos old.document h, λ can. sound_redo old.document h)
  unguarded_by old call.Copy h = given _ (copied_by By by old h)
  unguarded_by old (call.GoTo place) h =
      let rows = lines old.document.text in
      let near = clip_is_place rows place (omega (arith, h.cursor.0)) in
      let at = moved_out old.document.ranges (clip rows place) BiasForward in
      given _ (kept By by old.document (unguarded_after old (call.GoTo place)).document refl
      (sound_goes old (is_some old.document.anchor) (Some at) h (IsPlaceOf-moved_out rows old.document.ranges (clip rows place) BiasForward h.ranges near)))
  unguarded_by old call.StartSelection h =
      given _ (kept By by old.document (unguarded_after old call.StartSelection).document refl (sound_from old.document (Some old.document.cursor) h h.cursor))
  unguarded_by old call.CancelSelection h =
      given _ (kept By by old.document (unguarded_after old call.CancelSelection).document refl (sound_unanchored old.document h))
  unguarded_by old call.SelectAll h =
      let text = old.document.text in
      given _ (kept By by old.document (unguarded_after old call.SelectAll).document refl
      (sound_at old.document (place_of text (length text)) (Some (0, 0)) h (index_is_place text (length text)) (start_is_place text)))
  unguarded_by old (call.SearchForward at_cursor) h =
      let found = next_match old at_cursor in
      given _ (kept By by old.document (after_search old found).document (search_unchanged old found) (sound_search old found h (match_is_place toward.Forward old at_cursor)))
  unguarded_by old (call.SearchBack at_cursor) h =
      let found = previous_match old at_cursor in
      given _ (kept By by old.document (after_search old found).document (search_unchanged old found) (sound_search old found h (match_is_place toward.Back old at_cursor)))
  unguarded_by old (call.NormalizeCursorAroundAtomicRanges bias) h =
      given _ (kept By by old.document (unguarded_after old (call.NormalizeCursorAroundAtomicRanges bias)).document refl (sound_cursor old.document bias h))
  unguarded_by old (call.SetMaxHistories maximum) h =
      given _ (by.forgotten old.document (unguarded_after old (call.SetMaxHistories maximum)).document refl refl, sound_forgotten old.document maximum h)
  unguarded_by old (call.SetUndoRanges true) h =
      given _ (kept By by old.document (unguarded_after old (call.SetUndoRanges true)).document refl (sound_undo_ranges old.document true h))
  unguarded_by old (call.SetUndoRanges false) h =
      given _ (by.forgotten old.document (unguarded_after old (call.SetUndoRanges false)).document refl refl, sound_undo_ranges old.document false h)
  unguarded_by old (call.SetUndoCoalescing joins) h =
      given _ (kept By by old.document (unguarded_after old (call.SetUndoCoalescing joins)).document refl
      (record { cursor = h.cursor; anchor = h.anchor; ranges = h.ranges; in_order = h.in_order; undo = h.undo; redo = h.redo; bounded = h.bounded; marks = h.marks; whole = h.whole; past = h.past }))
  unguarded_by old (call.SetSingleLine single_line) h = given _ (single_by By by old single_line h)
  unguarded_by old call.BeginUndoGroup h =
      given _ (kept By by old.document (unguarded_after old call.BeginUndoGroup).document (begun_unchanged old.document) (sound_begun old.document h))
  unguarded_by old call.EndUndoGroup h =
      given _ (kept By by old.document (unguarded_after old call.EndUndoGroup).document (ended_unchanged old.document) (sound_ended old.document h))
  unguarded_by old call.EndRun h =
      given _ (kept By by old.document (unguarded_after old call.EndRun).document refl
      (sound_at old.document old.document.cursor old.document.anchor h h.cursor h.anchor))
  unguarded_by old (call.Input input) h = (tt, λ can. h)
  unguarded_by old (call.InputWithoutShortcuts input) h = (tt, λ can. h)
  unguarded_by old (call.SetLines items cursor) h =
      let place = clip (lines_of items.now) cursor in (
        tt,
        λ can.
            let fresh = fresh_document (text_of items.now) old.document.layout.settings old.document.layout.count place old.document.log.maximum in
            let changes = with_lines_replaced old.document.changes old.document.text (lines_of items.now) in
            sound_past (record fresh { changes = changes }) (no_past_ranges old.document.past_ranges.on)
            (sound_changes fresh changes
            (sound_fresh (text_of items.now) old.document.layout.settings old.document.layout.count place old.document.log.maximum
            (text_place items.now place (clip_is_place (lines_of items.now) cursor (omega (arith, can, length-map items.now characters_of))))))
            (none_past (text_of items.now) [] [] old.document.past_ranges.on),
      )
  unguarded_by old (call.SetTabLength columns) h = (tt, λ can. sound_settings old.document (tab_length_set old columns) h)
  unguarded_by old (call.SetWrapMode mode) h = (tt, λ can. sound_settings old.document (mode_set old mode) h)
  unguarded_by old (call.SetLineNumberStyle style) h = (tt, λ can. sound_settings old.document (line_numbers_set old true) h)
  unguarded_by old call.RemoveLineNumber h = (tt, λ can. sound_settings old.document (line_numbers_set old false) h)
  unguarded_by old (call.SetAlignment alignment) h = (tt, λ can. sound_settings old.document (alignment_set old alignment) h)
  unguarded_by old (call.TrySetAtomicRanges ranges) h = (tt, λ can. sound_ranges (rejected_ranges old ranges.now) old ranges.now h refl)
  unguarded_by old call.ClearAtomicRanges h = (
    tt,
    λ can. record {
      cursor = h.cursor;
      anchor = h.anchor;
      ranges = valid_none (lines old.document.text);
      in_order = refl;
      undo = h.undo;
      redo = h.redo;
      bounded = h.bounded;
      marks = h.marks;
      whole = h.whole;
      past = none_past old.document.text old.document.log.done old.document.log.undone old.document.past_ranges.on;
    },
  )
  unguarded_by old (call.SetChangeLog unit) h = (tt, λ can. sound_changes old.document (no_changes unit) h)
  unguarded_by old call.TakeChanges h = (tt, λ can. sound_changes old.document (no_changes old.document.changes.unit) h)
  unguarded_by old (call.Render area) h = (tt, λ can. h)
  unguarded_by old made h = given _ (kept By by old.document (unguarded_after old made).document refl h)

  -- a call that edits, in a text area that is read only
  barred_by : (old : State) (made : Call) → IsSound old.document → ByCallSoundly old made [] (barred_after old made)
  barred_by old call.Cut h = given _ (copied_by By by old h)
  barred_by old call.Undo h = (past.stays old.document h, λ can. h)
  barred_by old call.Redo h = (past.stays old.document h, λ can. h)
  barred_by old call.IndentLines h = (once.stays old.document h, λ can. h)
  barred_by old call.OutdentLines h = (once.stays old.document h, λ can. h)
  barred_by old (call.ReplaceAll text) h = (once.stays old.document h, λ can. h)
  barred_by old (call.Input input) h = (tt, λ can. h)
  barred_by old (call.InputWithoutShortcuts input) h = (tt, λ can. h)
  barred_by old (call.SetLines items cursor) h = (tt, λ can. h)
  barred_by old (call.SetTabLength columns) h = (tt, λ can. h)
  barred_by old (call.SetWrapMode mode) h = (tt, λ can. h)
  barred_by old (call.SetLineNumberStyle style) h = (tt, λ can. h)
  barred_by old call.RemoveLineNumber h = (tt, λ can. h)
  barred_by old (call.SetAlignment alignment) h = (tt, λ can. h)
  barred_by old (call.TrySetAtomicRanges ranges) h = (tt, λ can. h)
  barred_by old call.ClearAtomicRanges h = (tt, λ can. h)
  barred_by old (call.SetChangeLog unit) h = (tt, λ can. h)
  barred_by old call.TakeChanges h = (tt, λ can. h)
  barred_by old (call.Render area) h = (tt, λ can. h)
  barred_by old made h = given _ (kept By by old.document old.document refl h)

  -- a call with the state after it
  pub by_state : (old : State) (made : Call) → IsSound old.document → ByCallSoundly old made (call_splices old made) (state_after old made)
  by_state old made h =
      by_both (ByCallSoundly old made) (is_barred old made) [] (unguarded_splices old made) (barred_after old made) (settled_after made (unguarded_after old made))
      (λ barred. barred_by old made h)
      (λ free. settled_by_call old (unguarded_after old made) made (unguarded_splices old made) (unguarded_by old made h))

  pub acts_by : (old new : State) (asked : Action) → IsSound old.document → IsAfterAction old asked new
      → ByAct By Own asked old.document (splices_by old asked) new.document
  acts_by old new action.Undo h k = as_outcome Own old new _ _ k (by_state old call.Undo h).0
  acts_by old new action.Redo h k = as_outcome Own old new _ _ k (by_state old call.Redo h).0
  acts_by old new action.Nothing h k = by.none old.document new.document (ap (λ (s : State). layout_and_ranges s.document) k)
  acts_by old new (action.MoveWithShift cursor_move shift) h k = by.none old.document new.document (moves_unchanged old new shift cursor_move k)
  acts_by old new (action.ScrollWithShift scrolling shift) h k =
      by.none old.document new.document (moves_unchanged (viewport_scrolled old scrolling) new shift move.InViewport k)
  acts_by old new (action.Scroll scrolling) h k =
      by.none old.document new.document (moves_unchanged (viewport_scrolled old scrolling) new (is_some old.document.anchor) move.InViewport k)
  acts_by old new asked h k = as_outcome By old new (state_after old (the_call asked)) (splices_by old asked) k (by_state old (the_call asked) h).0

  pub calls_by : (old new : State) (made : Call) (returned : CallResult) → IsSound old.document → IsAfterCall old made returned new
      → ByCall By Once Own made old.document (splices_of old made) new.document
  calls_by old new (call.Input input) returned h k = acts_by old new (asked_by input.now) h k
  calls_by old new (call.InputWithoutShortcuts input) returned h k = acts_by old new (asked_without_shortcuts input.now) h k
  calls_by old new (call.Move cursor_move) returned h k = acts_by old new (action.MoveWithShift cursor_move (is_some old.document.anchor)) h k
  calls_by old new (call.Scroll scrolling) returned h k = acts_by old new (action.Scroll scrolling) h k
  calls_by old new (call.SetSearchPattern text) returned h k =
      by.none old.document new.document (ap (λ (s : State). layout_and_ranges s.document) k ∙ pattern_unchanged old text.now returned)
  calls_by old new (call.SetSearchText text ignore_case whole_word) returned h k =
      by.none old.document new.document (ap (λ (s : State). layout_and_ranges s.document) k ∙ pattern_unchanged old (text_pattern text.now ignore_case whole_word) returned)
  calls_by old new (call.Render area) returned h k = tt
  calls_by old new made returned h k = as_outcome (ByState By Once Own made) old new (state_after old made) (splices_of old made) k (by_state old made h).0

-- ---- calls that run out of memory

-- they leave the old state, or it without the selected text
call_left : (old new : State) (made : Call) → StateOutOfMemory old made new → IsInsertOutOfMemory old new
call_left old new (call.InsertChar c) k = k
call_left old new (call.InsertStr text) k = k
call_left old new (call.InsertPasted text) k = k
call_left old new call.InsertTab k = k
call_left old new call.InsertNewline k = k
call_left old new call.Paste k = k
call_left old new made k = inl k

pub any_left : (old new : State) (found : Option Call) → IsAnyOutOfMemory old found new → IsInsertOutOfMemory old new
any_left old new None k = inl k
any_left old new (Some made) k = call_left old new made k

pub left : (old new : State) (made : Call) → IsAfterOutOfMemory old made new → IsInsertOutOfMemory old new
left old new (call.Input input) k = any_left old new (call_of_action (asked_by input.now)) k
left old new (call.InputWithoutShortcuts input) k = any_left old new (call_of_action (asked_without_shortcuts input.now)) k
left old new made k = call_left old new made k

pub calls_left : (By : Fact) (by : Reckoning By) (old new : State) (made : Call) → IsSound old.document → IsAfterOutOfMemory old made new
    → OfSplicesOutOfMemory old (λ splices. By old.document splices new.document)
calls_left By by old new made h k =
    ⊎_elim
    (λ same. inl (by.none old.document new.document (ap (λ (s : State). layout_and_ranges s.document) same)))
    (λ gone. inr (as_outcome By old new (settled BiasForward (unselected old)) (selected_splices old.document) gone
    (by.same old.document (unselected old).document (settled BiasForward (unselected old)).document (selected_splices old.document) (settled_layout BiasForward (unselected old)) (selected_by By by old.document old.time h).0)))
    (left old new made k)
