-- Whether the calls of a step may change the text.
use Rattle.std.proofs.Common.{◌≡◌, ◌||◌, List, [], ◌∷◌, ◌++◌, Option, None, Some, ap, map, refl}
use Rattle.std.specs.List.{list_any}
use Rattle.textarea_calls.specs.Edits.{edits}
use Rattle.textarea_data.specs.declared.cursor.CursorMove.{CursorMove}
use Rattle.textarea_modal.specs.Calls.{key_call, key_edits, motion_call}
use Rattle.textarea_modal.specs.declared.step.KeyCall.{KeyCall}

calls_edit : (calls : List KeyCall) → list_any key_edits calls ≡ list_any edits (map key_call calls)
calls_edit [] = refl
calls_edit (call ∷ calls) = ap (λ b. key_edits call || b) (calls_edit calls)

-- a motion doesn't edit
pub step_edits : (motion : Option CursorMove) (calls : List KeyCall) → list_any key_edits calls ≡ list_any edits (motion_call motion ++ map key_call calls)
step_edits None calls = calls_edit calls
step_edits (Some cursor_move) calls = calls_edit calls
