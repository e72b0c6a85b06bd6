-- An undo gives the same text wherever the cursor and the anchor are.
use Rattle.std.proofs.Common.{◌≡◌, refl}
use Rattle.textarea_calls.specs.declared.call.Call.{Call}
use Rattle.textarea_data.specs.declared.range.AtomicCursorBias.{AtomicCursorBias}
use Rattle.textarea_document.specs.DocumentState.{logged}
use Rattle.textarea_document.specs.Outcomes.{after_undo}
use Rattle.textarea_document.proofs.UndoLaw.{undos_alike}
use Rattle.tui_textarea.specs.CallUnits.{bias_of_call, settled_after, settles}
use Rattle.tui_textarea.specs.State.{State}
use Rattle.tui_textarea.specs.Units.{settled}
use Rattle.tui_textarea.proofs.Cases.{by_test}
use Rattle.tui_textarea.proofs.Settling.{by_unit}

settled_logged : (bias : AtomicCursorBias) (state : State) → logged (settled bias state).document ≡ logged state.document
settled_logged bias state = by_unit (λ s. logged s.document ≡ logged state.document) bias state (λ is. refl) (λ is. refl)

pub undo_of_settled : (bias : AtomicCursorBias) (state : State) → (after_undo (settled bias state).document).text ≡ (after_undo state.document).text
undo_of_settled bias state = undos_alike 1 (settled bias state).document state.document (settled_logged bias state)

pub undo_after_call : (made : Call) (state : State) → (after_undo (settled_after made state).document).text ≡ (after_undo state.document).text
undo_after_call made state =
    by_test (λ (s : State). (after_undo s.document).text ≡ (after_undo state.document).text) (settles made) (settled (bias_of_call made) state) state
    (λ yes. undo_of_settled (bias_of_call made) state) (λ none. refl)
