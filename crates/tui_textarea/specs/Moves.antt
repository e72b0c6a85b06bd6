-- The states after moves.
use Rattle.std.specs.Prelude.{◌≡◌, Bool, true, false, List, Option, Some, None, is_some, option_map, unwrap_or}
use Rattle.textarea_text.specs.Place.{Place}
use Rattle.textarea_text.specs.Text.{lines}
use Rattle.textarea_text.specs.Between.{clip}
use Rattle.textarea_data.specs.declared.cursor.CursorMove.{CursorMove}
use Rattle.textarea_data.specs.declared.cursor.CursorMove.TheVariants as move
use Rattle.textarea_data.specs.declared.scroll.Scrolling.{Scrolling}
use Rattle.textarea_data.specs.declared.range.AtomicRange.{AtomicRange}
use Rattle.textarea_data.specs.declared.range.AtomicCursorBias.{AtomicCursorBias}
use Rattle.textarea_data.specs.declared.range.AtomicCursorBias.TheVariants.{Backward, Forward}
use Rattle.textarea_ranges.specs.Lookup.{moved_out}
use Rattle.textarea_document.specs.Outcomes.{after_move}
use Rattle.textarea_document.specs.DocumentState.{DocumentState}
use Rattle.tui_textarea.specs.Hit.{IsNearestVisible}
use Rattle.textarea_document.specs.Target.{IsDocumentTarget}
use Rattle.tui_textarea.specs.Drawing.{viewport_scrolled}
use Rattle.tui_textarea.specs.State.{State, with_document}
use Rattle.tui_textarea.specs.Units.{settled}

-- the selection's beginning after a move: with Shift the open selection's, or the old cursor;
-- without Shift there is none
abbrev pub anchor_with : Bool → DocumentState → Option Place
anchor_with true document = Some (unwrap_or document.anchor document.cursor)
anchor_with false document = None

-- the cursor moves to the target, with or without Shift; without a target nothing changes
abbrev pub after_move_by : State → Bool → Option Place → State
after_move_by state shift None = state
after_move_by state shift (Some place) = with_document state (after_move state.document place (anchor_with shift state.document))

-- which end of an atomic range replaces the move's target if that is strictly inside it
abbrev pub bias_of : CursorMove → AtomicCursorBias
bias_of move.Back = Backward
bias_of move.Up = Backward
bias_of move.Head = Backward
bias_of move.Top = Backward
bias_of move.WordBack = Backward
bias_of move.ParagraphBack = Backward
bias_of other = Forward

-- the target, moved out of the atomic range that strictly contains it
abbrev pub pushed : List AtomicRange → CursorMove → Option Place → Option Place
pushed ranges cursor_move found = option_map (λ place. moved_out ranges place (bias_of cursor_move)) found

-- The target of the move, if it has one: for InViewport the nearest visible position; for any other
-- move that of the document, which for Up is the position one visual row above the cursor, for Down
-- the one below it, in the layout as it is, and else depends only on the text and the cursor.
abbrev pub IsTarget : State → CursorMove → Option Place → Type 0
IsTarget state move.InViewport found =
    (place : Place) × (found ≡ Some place) × IsNearestVisible state.document state.drawing.viewport place
IsTarget state other found = IsDocumentTarget state.document other found

-- the state after the move, with or without Shift: the cursor is at the target, if there is one
pub record IsMovedTo (old : State) (shift : Bool) (cursor_move : CursorMove) (new : State) : Type 0 where
  pub found : Option Place
  pub target_is : IsTarget old cursor_move found
  pub new_is : new ≡ after_move_by old shift (pushed old.document.ranges cursor_move found)

-- and after it cursor and anchor are inside no cluster if the cursor goes by clusters
pub record IsMovedWith (old : State) (shift : Bool) (cursor_move : CursorMove) (new : State) : Type 0 where
  pub found : Option Place
  pub target_is : IsTarget old cursor_move found
  pub new_is : new ≡ settled (bias_of cursor_move) (after_move_by old shift (pushed old.document.ranges cursor_move found))

-- the state after the call that goes to a position: the cursor is at the nearest position of the
-- text, or at the end of the atomic range that strictly contains it
abbrev pub gone_to : State → Place → State
gone_to state place =
    after_move_by state (is_some state.document.anchor) (Some (moved_out state.document.ranges (clip (lines state.document.text) place) Forward))

-- the state after a scroll, with or without Shift, with the cursor at the nearest visible position
abbrev pub IsScrolledWith : State → Bool → Scrolling → State → Type 0
IsScrolledWith old shift scrolling new = IsMovedWith (viewport_scrolled old scrolling) shift move.InViewport new

-- the calls that move and scroll use Shift exactly if a selection is open, so none begins or ends
abbrev pub IsMoved : State → CursorMove → State → Type 0
IsMoved old cursor_move new = IsMovedWith old (is_some old.document.anchor) cursor_move new

abbrev pub IsScrolled : State → Scrolling → State → Type 0
IsScrolled old scrolling new = IsScrolledWith old (is_some old.document.anchor) scrolling new
