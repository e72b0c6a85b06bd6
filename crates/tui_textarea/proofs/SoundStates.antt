-- Documents are sound after moves, undo and redo, and after other ranges and settings.
use Rattle.std.proofs.Common.{◌≡◌, ◌<◌, Bool, true, false, List, [], ◌∷◌, length, Option, None, Some, option_map, unwrap_or, IfSome}
use Rattle.textarea_text.specs.Between.{clip}
use Rattle.textarea_text.specs.Place.{Place, IsPlace}
use Rattle.textarea_text.specs.Text.{Symbol, lines}
use Rattle.textarea_data.specs.declared.cursor.CursorMove.{CursorMove}
use Rattle.textarea_data.specs.declared.range.AtomicCursorBias.{AtomicCursorBias}
use Rattle.textarea_data.specs.declared.range.AtomicCursorBias.TheVariants.{Forward}
use Rattle.textarea_data.specs.declared.range.AtomicRange.{AtomicRange}
use Rattle.textarea_data.specs.declared.range.RejectedAtomicRange.{RejectedAtomicRange}
use Rattle.textarea_ranges.specs.Lookup.{moved_out}
use Rattle.textarea_ranges.specs.Order.{in_order}
use Rattle.textarea_ranges.specs.Valid.{AreValid}
use Rattle.textarea_ranges.proofs.LookupLemmas.{IsPlaceOf-moved_out}
use Rattle.textarea_ranges.proofs.OrderLemmas.{AreInOrder-in_order}
use Rattle.textarea_ranges.proofs.RejectedLemmas.{valid-none_rejected}
use Rattle.textarea_lines.specs.declared.settings.LayoutSettings.{LayoutSettings}
use Rattle.textarea_document.specs.DocumentRows.{with_layout_settings}
use Rattle.textarea_document.specs.DocumentState.{DocumentState}
use Rattle.textarea_document.specs.Outcomes.{after_move, unanchored}
use Rattle.textarea_document.specs.Sound.{IsSound}
use Rattle.textarea_document.proofs.Ranges.{anchor_place}
use Rattle.textarea_document.proofs.Sounds.{none_past, resound, sound_otherwise}
use Rattle.tui_textarea.specs.Calls.{rejected_ranges, with_ranges_if}
use Rattle.textarea_history.specs.declared.history.groups.Group.{Group}
use Rattle.tui_textarea.specs.Grouping.{with_group}
use Rattle.tui_textarea.specs.Moves.{after_move_by, anchor_with, bias_of, pushed}
use Rattle.tui_textarea.specs.Search.{after_search}
use Rattle.tui_textarea.specs.State.{State}
use Rattle.tui_textarea.specs.Ranges.{ranges_accepted}
use Rattle.tui_textarea.proofs.Settling.{sound_settled}
use Rattle.tui_textarea.proofs.Targets.{clip_is_place}

pub sound_at : (document : DocumentState) (cursor : Place) (anchor : Option Place) → IsSound document → IsPlace document.text cursor
    → IfSome anchor (IsPlace document.text) → IsSound (after_move document cursor anchor)
sound_at document cursor anchor h at from = sound_otherwise document document.layout cursor anchor false document.log.group document.changes h at from

pub sound_from : (document : DocumentState) (anchor : Option Place) → IsSound document → IfSome anchor (IsPlace document.text)
    → IsSound (record document { anchor = anchor })
sound_from document anchor h from = sound_otherwise document document.layout document.cursor anchor document.log.run_open document.log.group document.changes h h.cursor from

-- which group is open has no influence on it
pub sound_in_group : (state : State) (group : Group) → IsSound state.document → IsSound (with_group state group).document
sound_in_group state group h =
    let document = state.document in sound_otherwise document document.layout document.cursor document.anchor document.log.run_open group document.changes h h.cursor h.anchor

pub sound_unanchored : (document : DocumentState) → IsSound document → IsSound (unanchored document)
sound_unanchored document h = sound_from document None h tt

pub sound_cursor : (document : DocumentState) (bias : AtomicCursorBias) → IsSound document
    → IsSound (record document { cursor = moved_out document.ranges document.cursor bias })
sound_cursor document bias h =
    let cursor = moved_out document.ranges document.cursor bias in
    sound_otherwise document document.layout cursor document.anchor document.log.run_open document.log.group document.changes h
    (IsPlaceOf-moved_out (lines document.text) document.ranges document.cursor bias h.ranges h.cursor) h.anchor

pub clipped : (text : List Symbol) (anchor : Option Place) → 0 < length (lines text) → IfSome (option_map (clip (lines text)) anchor) (IsPlace text)
clipped text None some = tt
clipped text (Some place) some = clip_is_place (lines text) place some

-- ---- moves and searches

pub sound_goes : (state : State) (shift : Bool) (found : Option Place) → IsSound state.document → IfSome found (IsPlace state.document.text)
    → IsSound (after_move_by state shift found).document
sound_goes state shift None h at = h
sound_goes state shift (Some place) h at = sound_at state.document place (anchor_with shift state.document) h at (by shift)
  where
    origin : (anchor : Option Place) → IfSome anchor (IsPlace state.document.text) → IsPlace state.document.text (unwrap_or anchor state.document.cursor)
    origin None from = h.cursor
    origin (Some begun) from = from

    by : (shift : Bool) → IfSome (anchor_with shift state.document) (IsPlace state.document.text)
    by true = origin state.document.anchor h.anchor
    by false = tt

pub pushed_is_place : (text : List Symbol) (ranges : List AtomicRange) (cursor_move : CursorMove) (found : Option Place) → AreValid (lines text) ranges
    → IfSome found (IsPlace text) → IfSome (pushed ranges cursor_move found) (IsPlace text)
pushed_is_place text ranges cursor_move None valid h = tt
pushed_is_place text ranges cursor_move (Some place) valid h = IsPlaceOf-moved_out (lines text) ranges place (bias_of cursor_move) valid h

pub sound_search : (state : State) (found : Option Place) → IsSound state.document → IfSome found (IsPlace state.document.text)
    → IsSound (after_search state found).document
sound_search state None h at = h
sound_search state (Some place) h at = sound_at state.document place state.document.anchor h at h.anchor

-- ---- ranges and settings

pub sound_accepted : (state : State) (ranges : List AtomicRange) → IsSound state.document → rejected_ranges state ranges ≡ [] → IsSound (ranges_accepted state ranges).document
sound_accepted state ranges h none =
    let document = state.document in
    let sorted = in_order ranges in
    let valid : AreValid (lines document.text) sorted = valid-none_rejected (lines document.text) ranges none in
    record {
      cursor = IsPlaceOf-moved_out (lines document.text) sorted document.cursor Forward valid h.cursor;
      anchor = anchor_place document.text sorted document.anchor (moved_out sorted document.cursor Forward) valid h.anchor;
      ranges = valid;
      in_order = AreInOrder-in_order ranges;
      undo = h.undo;
      redo = h.redo;
      bounded = h.bounded;
      marks = h.marks;
      whole = h.whole;
      past = none_past document.text document.log.done document.log.undone document.past_ranges.on;
    }

pub sound_ranges : (rejected : List RejectedAtomicRange) (state : State) (ranges : List AtomicRange)
    → IsSound state.document → rejected_ranges state ranges ≡ rejected → IsSound (with_ranges_if rejected state ranges).document
sound_ranges [] state ranges h none = sound_settled Forward (ranges_accepted state ranges) (sound_accepted state ranges h none)
sound_ranges (range ∷ rejected) state ranges h some = h

pub sound_settings : (document : DocumentState) (settings : LayoutSettings) → IsSound document → IsSound (with_layout_settings document settings)
sound_settings document settings h = resound document (with_layout_settings document settings).layout h
