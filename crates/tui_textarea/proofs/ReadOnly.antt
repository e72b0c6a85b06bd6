-- In a text area that is read only the text stays.
use Rattle.std.proofs.Common.{◌≡◌, ◌∙◌, ◌&&◌, ◌||◌, Bool, true, false, ap, refl}
use Rattle.std.proofs.lemmas.Bool.{cond-true, false≢true, not-false}
use Rattle.textarea_calls.specs.Edits.{edits}
use Rattle.textarea_calls.specs.FlagRule.{may_change_text}
use Rattle.textarea_calls.specs.declared.action.Action.{Action}
use Rattle.textarea_calls.specs.declared.action.Action.TheVariants as action
use Rattle.textarea_calls.specs.declared.call.Call.{Call}
use Rattle.textarea_calls.specs.declared.call.Call.TheVariants as call
use Rattle.tui_textarea.specs.CallResults.{CallResult}
use Rattle.tui_textarea.specs.CallUnits.{settled_after}
use Rattle.tui_textarea.specs.Calls.{state_after, unguarded_after}
use Rattle.tui_textarea.specs.Guards.{SetsLines, barred_after, is_barred, is_left_out, is_editable}
use Rattle.tui_textarea.specs.Input.{IsAfterAction, asked_by, asked_without_shortcuts}
use Rattle.tui_textarea.specs.Outcomes.{IsAfterCall}
use Rattle.tui_textarea.specs.State.{State}
use Rattle.tui_textarea.proofs.Acting.{the_call}
use Rattle.tui_textarea.proofs.Unedited.{SameText, copied, text, unedited}

abbrev IsReadOnly : State → Type 0
IsReadOnly state = state.settings.read_only ≡ true

or_right : (a b : Bool) → b ≡ true → (a || b) ≡ true
or_right true b e = refl
or_right false b e = e

both : (a b : Bool) → a ≡ true → b ≡ true → (a && b) ≡ true
both true b e f = f
both false b e f = absurd (false≢true e)

barred : (state : State) (made : Call) → edits made ≡ true → IsReadOnly state → (¬ SetsLines made) → is_barred state made ≡ true
barred state (call.SetLines lines cursor) e read_only others = absurd (others tt)
barred state made e read_only others = or_right (is_left_out state made) (edits made && state.settings.read_only) (both (edits made) state.settings.read_only e read_only)

barred_stays : (state : State) (made : Call) → SameText state (barred_after state made)
barred_stays state call.Cut = copied state
barred_stays state made = refl

stays : (state : State) (made : Call) → edits made ≡ true → IsReadOnly state → (¬ SetsLines made) → SameText state (state_after state made)
stays state made e read_only others =
    ap text (cond-true (is_barred state made) (barred_after state made) (settled_after made (unguarded_after state made)) (barred state made e read_only others)) ∙ barred_stays state made

act_stays : (state new : State) (asked : Action) → may_change_text asked ≡ true → IsReadOnly state → IsAfterAction state asked new → SameText state new
act_stays state new action.Nothing e read_only after = absurd (false≢true e)
act_stays state new action.Copy e read_only after = absurd (false≢true e)
act_stays state new (action.MoveWithShift cursor_move shift) e read_only after = absurd (false≢true e)
act_stays state new (action.ScrollWithShift scrolling shift) e read_only after = absurd (false≢true e)
act_stays state new (action.Scroll scrolling) e read_only after = absurd (false≢true e)
act_stays state new asked e read_only after = ap text after ∙ stays state (the_call asked) refl read_only (λ no. no)

edit_stays : (state new : State) (made : Call) (returned : CallResult) → edits made ≡ true → IsReadOnly state → (¬ SetsLines made) → IsAfterCall state made returned new → SameText state new
edit_stays state new (call.Input input) returned e read_only others after = act_stays state new (asked_by input.now) e read_only after
edit_stays state new (call.InputWithoutShortcuts input) returned e read_only others after = act_stays state new (asked_without_shortcuts input.now) e read_only after
edit_stays state new (call.Move cursor_move) returned e read_only others after = absurd (false≢true e)
edit_stays state new (call.Scroll scrolling) returned e read_only others after = absurd (false≢true e)
edit_stays state new (call.SetSearchPattern pattern) returned e read_only others after = absurd (false≢true e)
edit_stays state new (call.SetSearchText plain ignore_case whole_word) returned e read_only others after = absurd (false≢true e)
edit_stays state new (call.Render area) returned e read_only others after = absurd (false≢true e)
edit_stays state new made returned e read_only others after = ap text after ∙ stays state made e read_only others

pub text_stays : (state new : State) (made : Call) (returned : CallResult) → is_editable state ≡ false → (¬ SetsLines made) → IsAfterCall state made returned new → SameText state new
text_stays state new made returned is others after = by (edits made) refl
  where
    by : (some : Bool) → edits made ≡ some → SameText state new
    by true e = edit_stays state new made returned e (not-false state.settings.read_only is) others after
    by false e = (unedited state made e).text_stays returned new after
