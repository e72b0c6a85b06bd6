-- Each call keeps the invariant of documents, in every state.
use Rattle.std.proofs.Common.{Bool, is_some, subst, sym, ⊎_elim}
use Rattle.textarea_calls.specs.Possible.{CanBeMade}
use Rattle.textarea_calls.specs.declared.action.Action.{Action}
use Rattle.textarea_calls.specs.declared.action.Action.TheVariants as action
use Rattle.textarea_calls.specs.declared.call.Call.{Call}
use Rattle.textarea_calls.specs.declared.call.Call.TheVariants as call
use Rattle.textarea_data.specs.declared.cursor.CursorMove.{CursorMove}
use Rattle.textarea_data.specs.declared.cursor.CursorMove.TheVariants as move
use Rattle.textarea_lines.specs.TextLayout.{at_width}
use Rattle.textarea_document.specs.DocumentRows.{text_and_layout}
use Rattle.textarea_document.specs.Sound.{IsSound}
use Rattle.textarea_view.specs.Measure.{width_inside}
use Rattle.tui_textarea.specs.CallResults.{CallResult, PatternRejected}
use Rattle.tui_textarea.specs.Calls.{state_after, unguarded_after}
use Rattle.tui_textarea.specs.Drawing.{viewport_scrolled}
use Rattle.tui_textarea.specs.Input.{IsAfterAction, asked_by, asked_without_shortcuts}
use Rattle.textarea_data.specs.declared.range.AtomicCursorBias.TheVariants.{Forward}
use Rattle.tui_textarea.specs.Moves.{IsMovedWith, after_move_by, bias_of, pushed}
use Rattle.tui_textarea.specs.Selection.{unselected}
use Rattle.tui_textarea.specs.Outcomes.{IsAfterCall, IsAfterOutOfMemory}
use Rattle.tui_textarea.specs.State.{State}
use Rattle.tui_textarea.proofs.Acting.{Fact, Past, by_state, left, the_call, unguarded_by}
use Rattle.tui_textarea.proofs.Frames.{drawn_document}
use Rattle.tui_textarea.proofs.Replacing.{AtOnce}
use Rattle.tui_textarea.proofs.Settling.{sound_settled}
use Rattle.tui_textarea.proofs.SoundStates.{pushed_is_place, sound_goes, sound_settings}
use Rattle.tui_textarea.proofs.Stepping.{Reckoning, selected_by}
use Rattle.tui_textarea.proofs.Targets.{LeadsToPlaces, target_is_place}

-- the document of the state is sound
abbrev HasSound : State → Type 0
HasSound state = IsSound state.document

-- ---- the state after each call

-- the relation of all documents, with which the proof of each call is only that it stays sound
abbrev Any : Fact
Any old splices new = Unit {0}

any : Reckoning Any
any = record { none = λ old new same. tt; same = λ old new other splices same h. tt; two = λ old between new first second h k. tt; one = λ document splice typed now sound fits whole. tt; forgotten = λ old new same none. tt }

past_any : Past Any
past_any = record { undos = λ document h. tt; redos = λ document h. tt; stays = λ document sound. tt; same = λ old new other splices same h. tt }

once_any : AtOnce Any
once_any = record { all = λ document stretches symbols now h. tt; stays = λ document sound. tt; same = λ old new other splices same h. tt }

pub unguarded_stays_sound : (old : State) (made : Call) → HasSound old → CanBeMade made → HasSound (unguarded_after old made)
unguarded_stays_sound old made h can = (unguarded_by Any Any Any any once_any past_any old made h).1 can

pub state_stays_sound : (old : State) (made : Call) → HasSound old → CanBeMade made → HasSound (state_after old made)
state_stays_sound old made h can = (by_state Any Any Any any once_any past_any old made h).1 can

-- ---- each call

module _ (leads : LeadsToPlaces) where
  sound_moved : (old new : State) (shift : Bool) (cursor_move : CursorMove) → HasSound old → IsMovedWith old shift cursor_move new → HasSound new
  sound_moved old new shift cursor_move h k =
      let found = pushed old.document.ranges cursor_move k.found in
      subst HasSound (sym k.new_is)
      (sound_settled (bias_of cursor_move) (after_move_by old shift found)
      (sound_goes old shift found h
      (pushed_is_place old.document.text old.document.ranges cursor_move k.found h.ranges (target_is_place leads old cursor_move k.found h.cursor k.target_is))))

  act_stays_sound : (old new : State) (asked : Action) → HasSound old → IsAfterAction old asked new → HasSound new
  act_stays_sound old new (action.MoveWithShift cursor_move shift) h k = sound_moved old new shift cursor_move h k
  act_stays_sound old new (action.ScrollWithShift scrolling shift) h k = sound_moved (viewport_scrolled old scrolling) new shift move.InViewport h k
  act_stays_sound old new (action.Scroll scrolling) h k = sound_moved (viewport_scrolled old scrolling) new (is_some old.document.anchor) move.InViewport h k
  act_stays_sound old new action.Nothing h k = subst HasSound (sym k) h
  act_stays_sound old new asked h k = subst HasSound (sym k) (state_stays_sound old (the_call asked) h tt)

  pub call_stays_sound : (old new : State) (made : Call) (returned : CallResult) → HasSound old → CanBeMade made
      → IsAfterCall old made returned new → HasSound new
  call_stays_sound old new (call.Input input) returned h can k = act_stays_sound old new (asked_by input.now) h k
  call_stays_sound old new (call.InputWithoutShortcuts input) returned h can k = act_stays_sound old new (asked_without_shortcuts input.now) h k
  call_stays_sound old new (call.Move cursor_move) returned h can k = act_stays_sound old new (action.MoveWithShift cursor_move (is_some old.document.anchor)) h k
  call_stays_sound old new (call.Scroll scrolling) returned h can k = act_stays_sound old new (action.Scroll scrolling) h k
  call_stays_sound old new (call.SetSearchPattern text) PatternRejected h can k = subst HasSound (sym k) h
  call_stays_sound old new (call.SetSearchPattern text) returned h can k = subst HasSound (sym k) h
  call_stays_sound old new (call.SetSearchText text ignore_case whole_word) PatternRejected h can k = subst HasSound (sym k) h
  call_stays_sound old new (call.SetSearchText text ignore_case whole_word) returned h can k = subst HasSound (sym k) h
  call_stays_sound old new (call.Render area) returned h can k =
      subst IsSound (sym (drawn_document old new area k)) (sound_settings old.document (at_width (text_and_layout old.document) (width_inside old.surround.block area.width)) h)
  call_stays_sound old new made returned h can k = subst HasSound (sym k) (state_stays_sound old made h can)

-- ---- calls that run out of memory

-- the removal of the selected text
pub selection_stays_sound : (old : State) → HasSound old → HasSound (unselected old)
selection_stays_sound old h = (selected_by Any any old.document old.time h).1

pub out_of_memory_stays_sound : (old new : State) (made : Call) → HasSound old → IsAfterOutOfMemory old made new → HasSound new
out_of_memory_stays_sound old new made h k =
    ⊎_elim
    (λ same. subst HasSound (sym same) h)
    (λ gone. subst HasSound (sym gone) (sound_settled Forward (unselected old) (selection_stays_sound old h)))
    (left old new made k)
