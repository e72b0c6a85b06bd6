-- A move has at most one target, if Up and Down have.
use Rattle.std.proofs.Common.{◌≡◌, Option, Some, ap, refl, sym, ◌∙◌}
use Rattle.textarea_text.specs.Place.{Place}
use Rattle.textarea_data.specs.declared.cursor.CursorMove.{CursorMove}
use Rattle.textarea_data.specs.declared.cursor.CursorMove.TheVariants as move
use Rattle.textarea_document.specs.DocumentRows.{IsAboveCursor, IsBelowCursor}
use Rattle.textarea_document.specs.DocumentState.{DocumentState}
use Rattle.textarea_document.specs.Target.{IsDocumentTarget}
use Rattle.tui_textarea.specs.Hit.{IsNearestVisible}
use Rattle.textarea_view.specs.Viewport.{ViewportState}
use Rattle.tui_textarea.specs.Moves.{IsTarget}
use Rattle.tui_textarea.specs.State.{State}

-- what is found from a document's cursor is unique
abbrev pub IsFoundOnce : (DocumentState → Option Place → Type 0) → Type 0
IsFoundOnce Finds = (document : DocumentState) (found other : Option Place) → Finds document found → Finds document other → found ≡ other

-- the nearest visible position is unique
abbrev pub IsInsideOnce : Type 0
IsInsideOnce = (document : DocumentState) (viewport : ViewportState) (place other : Place) → IsNearestVisible document viewport place → IsNearestVisible document viewport other → place ≡ other

pub one_target : (state : State) (cursor_move : CursorMove) (found other : Option Place) → IsFoundOnce IsAboveCursor → IsFoundOnce IsBelowCursor → IsInsideOnce
    → IsTarget state cursor_move found → IsTarget state cursor_move other → found ≡ other
one_target state move.Up found other above below inside h k = above state.document found other h k
one_target state move.Down found other above below inside h k = below state.document found other h k
one_target state move.InViewport found other above below inside h k = h.1 ∙ ap Some (inside state.document state.drawing.viewport h.0 k.0 h.2 k.2) ∙ sym k.1
one_target state level found other above below inside h k = h ∙ sym k

-- any move but InViewport has the document's target
pub document_target : (state : State) (cursor_move : CursorMove) (found : Option Place) → (cursor_move ≡ move.InViewport → ⊥) → IsDocumentTarget state.document cursor_move found → IsTarget state cursor_move found
document_target state move.InViewport found other h = absurd (other refl)
document_target state cursor_move found other h = h
