-- No call leaves the cursor or the anchor inside a cluster, if the cursor goes by clusters.
use Rattle.std.proofs.Common.{◌≡◌, ◌&&◌, ℕ, not, Bool, true, false, List, [], ◌∷◌, Option, None, Some, IfSome, ap, refl, subst, sym, is_some, ⊎_elim}
use Rattle.std.proofs.lemmas.Bool.{and_parts, false≢true}
use Rattle.textarea_calls.specs.Possible.{CanBeMade}
use Rattle.textarea_calls.specs.declared.action.Action.{Action}
use Rattle.textarea_calls.specs.declared.action.Action.TheVariants as action
use Rattle.textarea_calls.specs.declared.call.Call.{Call}
use Rattle.textarea_calls.specs.declared.call.Call.TheVariants as call
use Rattle.textarea_clusters.specs.Edges.{is_cluster_edge}
use Rattle.textarea_clusters.specs.Stops.{is_stop}
use Rattle.textarea_data.specs.declared.cursor.CursorMove.{CursorMove}
use Rattle.textarea_data.specs.declared.cursor.CursorMove.TheVariants as move
use Rattle.textarea_data.specs.declared.cursor.CursorUnit.{CursorUnit}
use Rattle.textarea_data.specs.declared.cursor.CursorUnit.TheVariants as unit
use Rattle.textarea_data.specs.declared.range.AtomicCursorBias.TheVariants.{Forward}
use Rattle.textarea_data.specs.declared.range.AtomicRange.{AtomicRange}
use Rattle.textarea_data.specs.declared.range.RejectedAtomicRange.{RejectedAtomicRange}
use Rattle.textarea_ranges.specs.Lookup.{range_around}
use Rattle.textarea_search.specs.PlainTexts.{text_pattern}
use Rattle.textarea_text.specs.Place.{Place, line_of}
use Rattle.textarea_text.specs.Text.{Symbol, lines}
use Rattle.textarea_document.specs.DocumentState.{DocumentState}
use Rattle.textarea_document.specs.Selection.{is_selected, selected}
use Rattle.textarea_document.specs.Sound.{IsSound}
use Rattle.tui_textarea.specs.CallResults.{CallResult, PatternRejected}
use Rattle.tui_textarea.specs.CallUnits.{bias_of_call, settled_after, settles}
use Rattle.tui_textarea.specs.Calls.{rejected_ranges, state_after, unguarded_after, with_ranges_if}
use Rattle.tui_textarea.specs.Drawing.{viewport_scrolled}
use Rattle.tui_textarea.specs.Guards.{barred_after, has_several_lines, is_barred, made_single}
use Rattle.tui_textarea.specs.Input.{IsAfterAction, asked_by, asked_without_shortcuts}
use Rattle.tui_textarea.specs.Moves.{IsMovedWith, after_move_by, bias_of, pushed}
use Rattle.tui_textarea.specs.Outcomes.{IsAfterCall, IsAfterOutOfMemory}
use Rattle.tui_textarea.specs.Ranges.{ranges_accepted, ranges_cleared}
use Rattle.tui_textarea.specs.Search.{with_pattern}
use Rattle.tui_textarea.specs.Selection.{selection_cancelled, selection_copied, unselected}
use Rattle.tui_textarea.specs.State.{State}
use Rattle.tui_textarea.specs.Units.{IsSettled, IsSettledBy, settled}
use Rattle.tui_textarea.proofs.Acting.{left, the_call}
use Rattle.tui_textarea.proofs.Cases.{by_test}
use Rattle.tui_textarea.proofs.Frames.{drawn_document}
use Rattle.tui_textarea.proofs.Settling.{is_settled}
use Rattle.tui_textarea.proofs.SoundStates.{pushed_is_place, sound_accepted, sound_goes}
use Rattle.tui_textarea.proofs.StaysSound.{selection_stays_sound, unguarded_stays_sound}
use Rattle.tui_textarea.proofs.Targets.{LeadsToPlaces, target_is_place}

-- ---- states with the same positions

-- the positions of a document, and what decides whether they are stops
abbrev Positions : Type 0
Positions = Place × Option Place × List AtomicRange × List Symbol

abbrev positions : DocumentState → Positions
positions document = (document.cursor, document.anchor, document.ranges, document.text)

pub same_settled : (old new : State) → new.settings.cursor_unit ≡ old.settings.cursor_unit → positions new.document ≡ positions old.document → IsSettled old → IsSettled new
same_settled old new same at h =
    subst (λ (found : CursorUnit). IsSettledBy found new.document) (sym same) (by old.settings.cursor_unit h)
  where
    by : (found : CursorUnit) → IsSettledBy found old.document → IsSettledBy found new.document
    by unit.Character h = tt
    by unit.Cluster h = record {
      cursor = subst (λ (p : Positions). is_stop p.2 (lines p.3) p.0 ≡ true) (sym at) h.cursor;
      anchor = subst (λ (p : Positions). IfSome p.1 (λ place. is_stop p.2 (lines p.3) place ≡ true)) (sym at) h.anchor;
    }

-- nothing is selected any more
unanchored_settled : (state : State) → IsSettled state → IsSettled (selection_cancelled state)
unanchored_settled state h = by state.settings.cursor_unit h
  where
    by : (found : CursorUnit) → IsSettledBy found state.document → IsSettledBy found (selection_cancelled state).document
    by unit.Character h = tt
    by unit.Cluster h = record { cursor = h.cursor; anchor = tt }

copied_settled : (state : State) → IsSettled state → IsSettled (selection_copied state)
copied_settled state h =
    by_test IsSettled (is_selected state.document) (record (selection_cancelled state) { yank = selected state.document }) (selection_cancelled state)
    (λ some. same_settled (selection_cancelled state) (record (selection_cancelled state) { yank = selected state.document }) refl refl (unanchored_settled state h))
    (λ none. unanchored_settled state h)

-- ---- ranges

edge_stays : (ranges : List AtomicRange) (rows : List (List ℕ)) (place : Place) → is_stop ranges rows place ≡ true → is_stop [] rows place ≡ true
edge_stays ranges rows place h =
    let edge = is_cluster_edge (line_of rows place.0) place.1 in
    ap (λ (b : Bool). b && true) (and_parts edge (not (is_some (range_around ranges place))) h).0

edges_stay : (ranges : List AtomicRange) (rows : List (List ℕ)) (anchor : Option Place) → IfSome anchor (λ place. is_stop ranges rows place ≡ true) → IfSome anchor (λ place. is_stop [] rows place ≡ true)
edges_stay ranges rows None h = tt
edges_stay ranges rows (Some place) h = edge_stays ranges rows place h

ranges_set_settled : (rejected : List RejectedAtomicRange) (state : State) (ranges : List AtomicRange) → IsSound state.document → rejected_ranges state ranges ≡ rejected → IsSettled state
    → IsSettled (with_ranges_if rejected state ranges)
ranges_set_settled [] state ranges sound none h = is_settled Forward (ranges_accepted state ranges) (sound_accepted state ranges sound none)
ranges_set_settled (range ∷ rejected) state ranges sound some h = h

-- a call that leaves them where they are
kept : (old : State) (made : Call) → settles made ≡ false → IsSound old.document → IsSettled old → IsSettled (unguarded_after old made)
kept old (call.InsertChar c) none sound h = absurd (false≢true (sym none))
kept old call.InsertNewline none sound h = absurd (false≢true (sym none))
kept old (call.InsertStr text) none sound h = absurd (false≢true (sym none))
kept old (call.InsertPasted text) none sound h = absurd (false≢true (sym none))
kept old call.InsertTab none sound h = absurd (false≢true (sym none))
kept old call.Paste none sound h = absurd (false≢true (sym none))
kept old call.DuplicateLine none sound h = absurd (false≢true (sym none))
kept old call.IndentLines none sound h = absurd (false≢true (sym none))
kept old call.OutdentLines none sound h = absurd (false≢true (sym none))
kept old call.MoveLinesUp none sound h = absurd (false≢true (sym none))
kept old call.MoveLinesDown none sound h = absurd (false≢true (sym none))
kept old (call.ReplaceRange from to text) none sound h = absurd (false≢true (sym none))
kept old (call.SetLines items cursor) none sound h = absurd (false≢true (sym none))
kept old call.DeleteChar none sound h = absurd (false≢true (sym none))
kept old call.DeleteNextChar none sound h = absurd (false≢true (sym none))
kept old call.DeleteNewline none sound h = absurd (false≢true (sym none))
kept old (call.DeleteStr count) none sound h = absurd (false≢true (sym none))
kept old call.DeleteLineByEnd none sound h = absurd (false≢true (sym none))
kept old call.DeleteLineByHead none sound h = absurd (false≢true (sym none))
kept old call.DeleteWord none sound h = absurd (false≢true (sym none))
kept old call.DeleteNextWord none sound h = absurd (false≢true (sym none))
kept old call.Clear none sound h = absurd (false≢true (sym none))
kept old call.Cut none sound h = absurd (false≢true (sym none))
kept old call.Undo none sound h = absurd (false≢true (sym none))
kept old call.Redo none sound h = absurd (false≢true (sym none))
kept old (call.ReplaceMatch text) none sound h = absurd (false≢true (sym none))
kept old (call.ReplaceAll text) none sound h = absurd (false≢true (sym none))
kept old (call.DeleteAtomicRangeAtCursor direction) none sound h = absurd (false≢true (sym none))
kept old (call.GoTo place) none sound h = absurd (false≢true (sym none))
kept old call.SelectAll none sound h = absurd (false≢true (sym none))
kept old (call.SearchForward at_cursor) none sound h = absurd (false≢true (sym none))
kept old (call.SearchBack at_cursor) none sound h = absurd (false≢true (sym none))
kept old (call.NormalizeCursorAroundAtomicRanges bias) none sound h = absurd (false≢true (sym none))
kept old (call.SetCursorUnit by) none sound h = absurd (false≢true (sym none))
kept old call.StartSelection none sound h = by old.settings.cursor_unit h
  where
    by : (found : CursorUnit) → IsSettledBy found old.document → IsSettledBy found (record old.document { anchor = Some old.document.cursor })
    by unit.Character h = tt
    by unit.Cluster h = record { cursor = h.cursor; anchor = h.cursor }
kept old call.CancelSelection none sound h = unanchored_settled old h
kept old call.Copy none sound h = copied_settled old h
kept old (call.TrySetAtomicRanges ranges) none sound h = ranges_set_settled (rejected_ranges old ranges.now) old ranges.now sound refl h
kept old call.ClearAtomicRanges none sound h = by old.settings.cursor_unit h
  where
    by : (found : CursorUnit) → IsSettledBy found old.document → IsSettledBy found (ranges_cleared old).document
    by unit.Character h = tt
    by unit.Cluster h = record {
      cursor = edge_stays old.document.ranges (lines old.document.text) old.document.cursor h.cursor;
      anchor = edges_stay old.document.ranges (lines old.document.text) old.document.anchor h.anchor;
    }
kept old (call.SetSingleLine true) none sound h =
    by_test IsSettled (has_several_lines old) old (made_single old) (λ several. h) (λ one. same_settled old (made_single old) refl refl h)
kept old (call.SetSingleLine false) none sound h = same_settled old (unguarded_after old (call.SetSingleLine false)) refl refl h
kept old made none sound h = same_settled old (unguarded_after old made) refl refl h

-- ---- each call

barred_settled : (old : State) (made : Call) → IsSettled old → IsSettled (barred_after old made)
barred_settled old call.Cut h = copied_settled old h
barred_settled old made h = h

state_settled : (old : State) (made : Call) → IsSound old.document → CanBeMade made → IsSettled old → IsSettled (state_after old made)
state_settled old made sound can h =
    let after = unguarded_after old made in
    by_test IsSettled (is_barred old made) (barred_after old made) (settled_after made after)
    (λ barred. barred_settled old made h)
    (λ free. by_test IsSettled (settles made) (settled (bias_of_call made) after) after
    (λ yes. is_settled (bias_of_call made) after (unguarded_stays_sound old made sound can))
    (λ none. kept old made none sound h))

module _ (leads : LeadsToPlaces) where
  moved_settled : (old new : State) (shift : Bool) (cursor_move : CursorMove) → IsSound old.document → IsMovedWith old shift cursor_move new → IsSettled new
  moved_settled old new shift cursor_move sound k =
      let found = pushed old.document.ranges cursor_move k.found in
      subst IsSettled (sym k.new_is)
      (is_settled (bias_of cursor_move) (after_move_by old shift found)
      (sound_goes old shift found sound
      (pushed_is_place old.document.text old.document.ranges cursor_move k.found sound.ranges (target_is_place leads old cursor_move k.found sound.cursor k.target_is))))

  act_settled : (old new : State) (asked : Action) → IsSound old.document → IsSettled old → IsAfterAction old asked new → IsSettled new
  act_settled old new (action.MoveWithShift cursor_move shift) sound h k = moved_settled old new shift cursor_move sound k
  act_settled old new (action.ScrollWithShift scrolling shift) sound h k = moved_settled (viewport_scrolled old scrolling) new shift move.InViewport sound k
  act_settled old new (action.Scroll scrolling) sound h k = moved_settled (viewport_scrolled old scrolling) new (is_some old.document.anchor) move.InViewport sound k
  act_settled old new action.Nothing sound h k = subst IsSettled (sym k) h
  act_settled old new asked sound h k = subst IsSettled (sym k) (state_settled old (the_call asked) sound tt h)

  pub call_settled : (old new : State) (made : Call) (returned : CallResult) → IsSound old.document → IsSettled old → CanBeMade made → IsAfterCall old made returned new → IsSettled new
  call_settled old new (call.Input input) returned sound h can k = act_settled old new (asked_by input.now) sound h k
  call_settled old new (call.InputWithoutShortcuts input) returned sound h can k = act_settled old new (asked_without_shortcuts input.now) sound h k
  call_settled old new (call.Move cursor_move) returned sound h can k = moved_settled old new (is_some old.document.anchor) cursor_move sound k
  call_settled old new (call.Scroll scrolling) returned sound h can k = moved_settled (viewport_scrolled old scrolling) new (is_some old.document.anchor) move.InViewport sound k
  call_settled old new (call.SetSearchPattern text) PatternRejected sound h can k = subst IsSettled (sym k) h
  call_settled old new (call.SetSearchPattern text) returned sound h can k = subst IsSettled (sym k) (same_settled old (with_pattern old text.now) refl refl h)
  call_settled old new (call.SetSearchText text ignore_case whole_word) PatternRejected sound h can k = subst IsSettled (sym k) h
  call_settled old new (call.SetSearchText text ignore_case whole_word) returned sound h can k =
      subst IsSettled (sym k) (same_settled old (with_pattern old (text_pattern text.now ignore_case whole_word)) refl refl h)
  call_settled old new (call.Render area) returned sound h can k =
      same_settled old new (ap (λ (s : State). s.settings.cursor_unit) k.rest) (ap positions (drawn_document old new area k)) h
  call_settled old new made returned sound h can k = subst IsSettled (sym k) (state_settled old made sound can h)

-- nor does one that runs out of memory
pub left_settled : (old new : State) (made : Call) → IsSound old.document → IsSettled old → IsAfterOutOfMemory old made new → IsSettled new
left_settled old new made sound h k =
    ⊎_elim
    (λ same. subst IsSettled (sym same) h)
    (λ gone. subst IsSettled (sym gone) (is_settled Forward (unselected old) (selection_stays_sound old sound)))
    (left old new made k)
