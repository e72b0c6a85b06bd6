-- How the atomic ranges move over each call, by the laws of the text area.
use Rattle.std.proofs.Common.{◌≡◌, Bool, Bor, List, [], ◌∷◌, cond, false, true, ap, refl, subst, sym, ◌∙◌}
use Rattle.textarea_calls.specs.declared.action.Action.{Action}
use Rattle.textarea_calls.specs.declared.action.Action.TheVariants as action
use Rattle.textarea_data.specs.declared.range.AtomicRange.{AtomicRange}
use Rattle.textarea_data.specs.declared.range.RejectedAtomicRange.{RejectedAtomicRange}
use Rattle.textarea_text.specs.Splice.{CanApply, Splice}
use Rattle.textarea_document.specs.RangesOverSplices.{SplitNoRange, RangesFollowPast, RangesStayWhole}
use Rattle.textarea_document.specs.Sound.{IsSound}
use Rattle.textarea_document.specs.DocumentState.{DocumentState}
use Rattle.textarea_document.proofs.RangesOverSplices.{stays}
use Rattle.tui_textarea.specs.RangesOverActions.{RangesFollowAction}
use Rattle.tui_textarea.specs.Input.{IsAfterAction, asked_by, asked_without_shortcuts, call_of_action, state_after_any}
use Rattle.tui_textarea.specs.State.{State}
use Rattle.tui_textarea.specs.Calls.{state_after, ranges_result, rejected_ranges, with_lines, with_ranges_if}
use Rattle.textarea_text.specs.Text.{lines_of}
use Rattle.tui_textarea.specs.Guards.{bars_lines}
use Rattle.tui_textarea.specs.RangesOverCalls.{NoRangeUnless, RangesFollowCall, IsUndoOrRedo, IsUndoOrRedoAct}
use Rattle.tui_textarea.specs.Outcomes.{IsResultOf, IsAfterCall, IsAfterOutOfMemory}
use Rattle.tui_textarea.specs.CallResults.{CallResult, Done}
use Rattle.tui_textarea.specs.CallSplices.{OfSplicesOutOfMemory, splices_of, splices_by}
use Rattle.textarea_calls.specs.declared.call.Call.{Call}
use Rattle.textarea_calls.specs.declared.call.Call.TheVariants as call
use Rattle.textarea_data.specs.declared.range.AtomicCursorBias.TheVariants.{Forward}
use Rattle.tui_textarea.specs.Ranges.{ranges_accepted}
use Rattle.tui_textarea.specs.Units.{settled}
use Rattle.tui_textarea.proofs.Settling.{settled_ranges, settled_text}
use Rattle.tui_textarea.proofs.Cases.{by_test}
use Rattle.tui_textarea.proofs.Acting.{ByAct, ByCall, acts_by, calls_by, calls_left}
use Rattle.tui_textarea.proofs.RangesOverActions.{RedosGo, EditsGo, UndosGo, at_once_of, ranges_stay_in_drawing, reckoning_of, past_follows}

-- ---- the laws of the text area

pub record TheLaws : Type 0 where
  pub edited : EditsGo
  pub undone : UndosGo
  pub redone : RedosGo

-- ---- calls that leave text and ranges unchanged

unchanged : (old new outcome : State) → new ≡ outcome → outcome.document.text ≡ old.document.text → outcome.document.ranges ≡ old.document.ranges → RangesStayWhole old.document [] new.document
unchanged old new outcome is text ranges =
    stays old.document new.document (ap (λ (s : State). s.document.text) is ∙ text) (ap (λ (s : State). s.document.ranges) is ∙ ranges)

-- ranges that are set, where none is rejected
set_ranges : (old new : State) (ranges : Bor (List AtomicRange)) (rejected : List RejectedAtomicRange) (returned : CallResult)
    → returned ≡ ranges_result rejected → new ≡ with_ranges_if rejected old ranges.now → RangesFollowCall old (call.TrySetAtomicRanges ranges) returned new
set_ranges old new ranges [] returned e k =
    subst (λ (a : CallResult). RangesFollowCall old (call.TrySetAtomicRanges ranges) a new) (sym e)
    (record {
      text = ap (λ (s : State). s.document.text) k ∙ settled_text Forward (ranges_accepted old ranges.now);
      ranges = ap (λ (s : State). s.document.ranges) k ∙ settled_ranges Forward (ranges_accepted old ranges.now);
    })
set_ranges old new ranges (range ∷ rejected) returned e k =
    subst (λ (a : CallResult). RangesFollowCall old (call.TrySetAtomicRanges ranges) a new) (sym e) (unchanged old new old k refl refl)

-- lines that are set, or left out
lines_set : (old new set : State) (barred : Bool) → set.document.ranges ≡ [] → new ≡ cond barred old set → NoRangeUnless barred old new
lines_set old new set true none k = unchanged old new old k refl refl
lines_set old new set false none k = ap (λ (s : State). s.document.ranges) k ∙ none

-- ---- each call

-- the state after a call that runs out of memory, by the splices that it has made
abbrev pub LeftUnwrapped : State → State → Type 0
LeftUnwrapped old new = OfSplicesOutOfMemory old (λ splices. RangesStayWhole old.document splices new.document)

-- the splices fit the text one after another, and only those of an undo or redo may split a range
abbrev Fitting : State → Type 0 → List Splice → Type 0
Fitting state Free splices = CanApply state.document.text splices × ((¬ Free) → SplitNoRange state.document.ranges splices)

uncut : {Free : Type 0} (state : State) (splices : List Splice) (new : DocumentState) → RangesStayWhole state.document splices new → Fitting state Free splices
uncut state splices new h = (h.0.text.can, λ no. h.1)

follows_by_action : (asked : Action) (old new : DocumentState) (splices : List Splice) → ByAct RangesStayWhole RangesFollowPast asked old splices new → RangesFollowAction asked old splices new
follows_by_action action.Undo old new splices h = h
follows_by_action action.Redo old new splices h = h
follows_by_action asked old new splices h = h

module _ (laws : TheLaws) where
  ranges_follow : (old new : State) (made : Call) (returned : CallResult) → IsSound old.document → IsAfterCall old made returned new → ByCall RangesStayWhole RangesStayWhole RangesFollowPast made old.document (splices_of old made) new.document
  ranges_follow old new made returned h k = calls_by RangesStayWhole RangesStayWhole RangesFollowPast (reckoning_of laws.edited) (at_once_of laws.edited) (past_follows laws.undone laws.redone) old new made returned h k

  pub ranges_follow_call : (old new : State) (made : Call) (returned : CallResult) → IsSound old.document → IsResultOf old made returned → IsAfterCall old made returned new → RangesFollowCall old made returned new
  ranges_follow_call old new (call.SetLines lines cursor) returned h e k =
      let set = with_lines old lines.now cursor in
      lines_set old new (settled Forward set) (bars_lines old (lines_of lines.now)) (settled_ranges Forward set) k
  ranges_follow_call old new call.ClearAtomicRanges returned h e k = ap (λ (s : State). s.document.ranges) k
  ranges_follow_call old new (call.TrySetAtomicRanges ranges) returned h e k = set_ranges old new ranges (rejected_ranges old ranges.now) returned e k
  ranges_follow_call old new (call.SetTabLength columns) returned h e k = unchanged old new _ k refl refl
  ranges_follow_call old new (call.SetWrapMode mode) returned h e k = unchanged old new _ k refl refl
  ranges_follow_call old new (call.SetLineNumberStyle style) returned h e k = unchanged old new _ k refl refl
  ranges_follow_call old new call.RemoveLineNumber returned h e k = unchanged old new _ k refl refl
  ranges_follow_call old new (call.SetAlignment alignment) returned h e k = unchanged old new _ k refl refl
  ranges_follow_call old new (call.SetChangeLog unit) returned h e k = unchanged old new _ k refl refl
  ranges_follow_call old new call.TakeChanges returned h e k = unchanged old new _ k refl refl
  ranges_follow_call old new (call.Render area) returned h e k = ranges_stay_in_drawing old new area k
  ranges_follow_call old new (call.Input input) returned h e k = follows_by_action (asked_by input.now) old.document new.document _ (ranges_follow old new (call.Input input) returned h k)
  ranges_follow_call old new (call.InputWithoutShortcuts input) returned h e k = follows_by_action (asked_without_shortcuts input.now) old.document new.document _ (ranges_follow old new (call.InputWithoutShortcuts input) returned h k)
  ranges_follow_call old new made returned h e k = ranges_follow old new made returned h k

  pub out_of_memory_follows : (old new : State) (made : Call) → IsSound old.document → IsAfterOutOfMemory old made new → LeftUnwrapped old new
  out_of_memory_follows old new made h k = calls_left RangesStayWhole (reckoning_of laws.edited) old new made h k

  -- ---- the splices of each call, in any case

  inputs_go : (old new : State) (asked : Action) → IsSound old.document → IsAfterAction old asked new → RangesFollowAction asked old.document (splices_by old asked) new.document
  inputs_go old new asked h k =
      follows_by_action asked old.document new.document _ (acts_by RangesStayWhole RangesStayWhole RangesFollowPast (reckoning_of laws.edited) (at_once_of laws.edited) (past_follows laws.undone laws.redone) old new asked h k)

  act_fits : (state : State) (asked : Action) → IsSound state.document → Fitting state (IsUndoOrRedoAct asked) (splices_by state asked)
  act_fits state action.Undo h = ((inputs_go state (state_after state call.Undo) action.Undo h refl).text.can, λ no. absurd (no tt))
  act_fits state action.Redo h = ((inputs_go state (state_after state call.Redo) action.Redo h refl).text.can, λ no. absurd (no tt))
  act_fits state (action.MoveWithShift cursor_move shift) h = (tt, λ no. tt)
  act_fits state (action.ScrollWithShift scrolling shift) h = (tt, λ no. tt)
  act_fits state (action.Scroll scrolling) h = (tt, λ no. tt)
  act_fits state asked h = uncut state _ _ (inputs_go state (state_after_any state (call_of_action asked)) asked h refl)

  pub call_fits : (state : State) (made : Call) → IsSound state.document → Fitting state (IsUndoOrRedo made) (splices_of state made)
  call_fits state call.Undo h = act_fits state action.Undo h
  call_fits state call.Redo h = act_fits state action.Redo h
  call_fits state (call.Input input) h = act_fits state (asked_by input.now) h
  call_fits state (call.InputWithoutShortcuts input) h = act_fits state (asked_without_shortcuts input.now) h
  call_fits state (call.SetLines lines cursor) h = by_test (Fitting state (IsUndoOrRedo (call.SetLines lines cursor))) (bars_lines state (lines_of lines.now)) [] [] (λ barred. (tt, λ no. tt)) (λ set. (tt, λ no. tt))
  call_fits state (call.SetTabLength columns) h = (tt, λ no. tt)
  call_fits state (call.SetWrapMode mode) h = (tt, λ no. tt)
  call_fits state (call.SetLineNumberStyle style) h = (tt, λ no. tt)
  call_fits state call.RemoveLineNumber h = (tt, λ no. tt)
  call_fits state (call.SetAlignment alignment) h = (tt, λ no. tt)
  call_fits state (call.TrySetAtomicRanges ranges) h = (tt, λ no. tt)
  call_fits state call.ClearAtomicRanges h = (tt, λ no. tt)
  call_fits state (call.SetChangeLog unit) h = (tt, λ no. tt)
  call_fits state call.TakeChanges h = (tt, λ no. tt)
  call_fits state (call.Render area) h = (tt, λ no. tt)
  call_fits state (call.Move cursor_move) h = (tt, λ no. tt)
  call_fits state (call.Scroll scrolling) h = (tt, λ no. tt)
  call_fits state (call.SetSearchPattern text) h = (tt, λ no. tt)
  call_fits state (call.SetSearchText text ignore_case whole_word) h = (tt, λ no. tt)
  call_fits state made h = uncut state _ _ (ranges_follow state (state_after state made) made Done h refl)
