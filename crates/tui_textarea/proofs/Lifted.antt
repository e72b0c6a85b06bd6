-- Facts of the document's parts, lifted to the whole state.
use Rattle.std.proofs.Common.{◌≡◌, ℕ, Bool, List, Option, Some, Result, Ok, Err, ap, subst, ◌∙◌}
use Rattle.std.specs.Result.{OnOk}
use Rattle.textarea_text.specs.Place.{Place}
use Rattle.textarea_data.specs.declared.cursor.CursorMove.{CursorMove}
use Rattle.textarea_data.specs.declared.cursor.CursorMove.TheVariants as move
use Rattle.textarea_data.specs.declared.scroll.Scrolling.{Scrolling}
use Rattle.textarea_document.specs.Outcomes.{after_move}
use Rattle.textarea_document.specs.Selection.{selected_removed}
use Rattle.textarea_document.specs.DocumentState.{DocumentState}
use Rattle.tui_textarea.specs.DrawingState.{DrawingState}
use Rattle.textarea_data.specs.declared.range.AtomicRange.{AtomicRange}
use Rattle.textarea_data.specs.declared.range.AtomicCursorBias.{AtomicCursorBias}
use Rattle.textarea_ranges.specs.Lookup.{moved_out}
use Rattle.tui_textarea.specs.Drawing.{viewport_scrolled}
use Rattle.tui_textarea.specs.Moves.{IsMovedWith, anchor_with, bias_of, after_move_by, pushed}
use Rattle.tui_textarea.specs.State.{State, with_document}

-- the document becomes the one after the call, if the call succeeds
pub document_lifted : {T E : Type 0} (r : Result T E) (made : State → DocumentState) {view state : State} → view ≡ state → (new : DocumentState)
    → OnOk r (new ≡ made view) → OnOk r (with_document view new ≡ with_document state (made state))
document_lifted (Ok x) made {view} is new h = ap (with_document view) h ∙ ap (λ (s : State). with_document s (made s)) is
document_lifted (Err e) made is new h = h

-- the same after the removal of the selected text
pub unselected_lifted : {T E : Type 0} (r : Result T E) (made : DocumentState → ℕ → DocumentState) {view state : State} → view ≡ state → (removed new : DocumentState)
    → removed ≡ selected_removed view.document view.time → OnOk r (new ≡ made removed view.time)
    → OnOk r (with_document view new ≡ with_document state (made (selected_removed state.document state.time) state.time))
unselected_lifted (Ok x) made {view} is removed new gone h =
    ap (with_document view) (h ∙ ap (λ (d : DocumentState). made d view.time) gone)
    ∙ ap (λ (s : State). with_document s (made (selected_removed s.document s.time) s.time)) is
unselected_lifted (Err e) made is removed new gone h = h

-- the document whose cursor moves to a position, out of ranges, is that of the moved state
pub move_lifted : {view state : State} → view ≡ state → (new : DocumentState) (shift : Bool) (cursor_move : CursorMove) (place out : Place)
    (ranges : List AtomicRange) (bias : AtomicCursorBias) (anchor : Option Place)
    → new ≡ after_move view.document out anchor → out ≡ moved_out ranges place bias → ranges ≡ view.document.ranges → bias ≡ bias_of cursor_move
    → anchor ≡ anchor_with shift state.document
    → with_document view new ≡ after_move_by state shift (pushed state.document.ranges cursor_move (Some place))
move_lifted {view} {state} is new shift cursor_move place out ranges bias anchor new_is out_is ranges_are bias_is anchor_is =
    ap (with_document view) (new_is
    ∙ ap (λ (p : Place). after_move view.document p anchor)
    (out_is ∙ ap (λ (r : List AtomicRange). moved_out r place bias) ranges_are ∙ ap (λ (b : AtomicCursorBias). moved_out view.document.ranges place b) bias_is)
    ∙ ap (λ (a : Option Place). after_move view.document (moved_out view.document.ranges place (bias_of cursor_move)) a) anchor_is)
    ∙ ap (λ (s : State). with_document s (after_move s.document (moved_out s.document.ranges place (bias_of cursor_move)) (anchor_with shift state.document))) is

-- a move into the viewport after a scroll of the drawing is one after a scroll of the state
pub scroll_lifted : {view state : State} → view ≡ state → (scrolling : Scrolling) (drawing : DrawingState) (shift : Bool) (new : State)
    → drawing ≡ (viewport_scrolled view scrolling).drawing → IsMovedWith (record view { drawing = drawing }) shift move.InViewport new
    → IsMovedWith (viewport_scrolled state scrolling) shift move.InViewport new
scroll_lifted {view} is scrolling drawing shift new drawing_is h =
    subst (λ (s : State). IsMovedWith s shift move.InViewport new)
    (ap (λ (d : DrawingState). record view { drawing = d }) drawing_is ∙ ap (λ (s : State). viewport_scrolled s scrolling) is) h
