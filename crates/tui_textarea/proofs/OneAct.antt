-- The action of an input leads to one state.
use Rattle.std.proofs.Common.{◌≡◌, Bool, is_some, sym, ◌∙◌}
use Rattle.textarea_data.specs.declared.cursor.CursorMove.{CursorMove}
use Rattle.textarea_data.specs.declared.cursor.CursorMove.TheVariants as move
use Rattle.textarea_calls.specs.declared.action.Action.{Action}
use Rattle.textarea_calls.specs.declared.action.Action.TheVariants as action
use Rattle.tui_textarea.specs.Drawing.{viewport_scrolled}
use Rattle.tui_textarea.specs.Input.{IsAfterAction}
use Rattle.tui_textarea.specs.Moves.{IsMovedWith}
use Rattle.tui_textarea.specs.State.{State}

abbrev pub IsOneMove : Type 0
IsOneMove = (old first second : State) (shift : Bool) (cursor_move : CursorMove) → IsMovedWith old shift cursor_move first → IsMovedWith old shift cursor_move second → first ≡ second

pub one_act : (one : IsOneMove) (old first second : State) (asked : Action) → IsAfterAction old asked first → IsAfterAction old asked second → first ≡ second
one_act one old first second (action.MoveWithShift cursor_move shift) h k = one old first second shift cursor_move h k
one_act one old first second (action.ScrollWithShift scrolling shift) h k = one (viewport_scrolled old scrolling) first second shift move.InViewport h k
one_act one old first second (action.Scroll scrolling) h k = one (viewport_scrolled old scrolling) first second (is_some old.document.anchor) move.InViewport h k
one_act one old first second asked h k = h ∙ sym k
