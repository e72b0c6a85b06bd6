-- Whether the calls of a modal editor's step copy text.
use Rattle.std.proofs.Common.{◌≡◌, ◌||◌, List, [], ◌∷◌, ◌++◌, Option, None, Some, ap, map, refl}
use Rattle.std.specs.List.{list_any}
use Rattle.textarea_data.specs.declared.cursor.CursorMove.{CursorMove}
use Rattle.textarea_editor.specs.EventEffects.{is_copying, key_copies}
use Rattle.textarea_modal.specs.Calls.{key_call, motion_call}
use Rattle.textarea_modal.specs.declared.step.KeyCall.{KeyCall}

calls_copy : (calls : List KeyCall) → list_any key_copies calls ≡ list_any is_copying (map key_call calls)
calls_copy [] = refl
calls_copy (call ∷ calls) = ap (λ b. key_copies call || b) (calls_copy calls)

-- a motion copies nothing
pub step_copies : (motion : Option CursorMove) (calls : List KeyCall) → list_any key_copies calls ≡ list_any is_copying (motion_call motion ++ map key_call calls)
step_copies None calls = calls_copy calls
step_copies (Some cursor_move) calls = calls_copy calls
