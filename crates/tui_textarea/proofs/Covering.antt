-- What ranges cover after each call that doesn't set them, ranges cover before.
use Rattle.std.proofs.Common.{◌≡◌, ℕ, Bool, Bor, List, [], ◌∷◌, ◌++◌, ap, arith, refl, subst, sym, ◌∙◌, inl, inr, ⊎_elim}
use Rattle.std.specs.Prelude.{Contains}
use Rattle.std.proofs.lemmas.List.Elements.{Contains-append_cases, Contains-append_left}
use Rattle.textarea_calls.specs.declared.action.Action.{Action}
use Rattle.textarea_calls.specs.declared.call.Call.{Call}
use Rattle.textarea_calls.specs.declared.call.Call.TheVariants as call
use Rattle.textarea_data.specs.declared.range.AtomicCursorBias.TheVariants.{Forward}
use Rattle.textarea_data.specs.declared.range.AtomicRange.{AtomicRange}
use Rattle.textarea_data.specs.declared.range.RejectedAtomicRange.{RejectedAtomicRange}
use Rattle.textarea_text.specs.Splice.{Fits, Splice}
use Rattle.textarea_document.specs.Covered.{CoversNoMore, covered, covered_before, covered_in, covered_past}
use Rattle.textarea_document.specs.DocumentState.{DocumentState}
use Rattle.textarea_document.specs.Outcomes.{after_edit, after_redo, after_undo}
use Rattle.textarea_document.specs.PastRanges.{texts_before}
use Rattle.textarea_document.specs.Sound.{IsSound}
use Rattle.textarea_document.specs.Splices.{selected_splices}
use Rattle.tui_textarea.specs.CallResults.{CallResult, Done}
use Rattle.tui_textarea.specs.Calls.{ranges_result, rejected_ranges, with_ranges_if}
use Rattle.tui_textarea.specs.ActionTexts.{IsLeftByAction}
use Rattle.tui_textarea.specs.Input.{asked_by, asked_without_shortcuts, call_of_action}
use Rattle.tui_textarea.specs.Outcomes.{IsAfterCall, IsAfterOutOfMemory, IsResultOf}
use Rattle.tui_textarea.specs.RangesOverCalls.{SetsRanges}
use Rattle.tui_textarea.specs.Selection.{unselected}
use Rattle.tui_textarea.specs.State.{State}
use Rattle.tui_textarea.specs.Units.{settled}
use Rattle.tui_textarea.proofs.Acting.{Fact, Past, acts_by, any_left, by_any_act, calls_by, calls_left}
use Rattle.tui_textarea.proofs.Frames.{drawn_document}
use Rattle.tui_textarea.proofs.Replacing.{AtOnce, at_once_by}
use Rattle.tui_textarea.proofs.Settling.{LayoutAndRanges, Visible, layout_and_ranges, settled_layout, visible}
use Rattle.tui_textarea.proofs.Stepping.{Reckoning, selected_by}

-- ---- the laws of documents

pub record TheLaws : Type 0 where
  pub edited : (document : DocumentState) (splice : Splice) (typed : Bool) (now : ℕ) → IsSound document → Fits document.text splice → CoversNoMore document (after_edit document splice typed now)
  pub undone : (document : DocumentState) → IsSound document → CoversNoMore document (after_undo document)
  pub redone : (document : DocumentState) → IsSound document → CoversNoMore document (after_redo document)

-- ---- documents with the same ranges

abbrev Covers : Fact
Covers old splices new = CoversNoMore old new

covered_same : (old new : DocumentState) → covered new ≡ covered old → CoversNoMore old new
covered_same old new same characters stored = subst (λ (l : List (List ℕ)). Contains l characters) same stored

shown_covered : (old new : DocumentState) → layout_and_ranges new ≡ layout_and_ranges old → covered new ≡ covered old
shown_covered old new same = ap (λ (s : LayoutAndRanges). covered_in s.0.text s.1 ++ s.3) same

-- none are remembered
forgets : (old new : DocumentState) → visible new ≡ visible old → new.past_ranges.before ≡ [] → CoversNoMore old new
forgets old new same none characters stored =
    elim (Contains-append_cases (covered_in new.text new.ranges) (covered_past new) characters stored) [
      | inl here ↦ Contains-append_left (covered_in old.text old.ranges) (covered_past old) characters (subst (λ (l : List (List ℕ)). Contains l characters) (ap (λ (s : Visible). covered_in s.0.text s.1) same) here)
      | inr past ↦
          let nothing : Contains {X = List ℕ} [] characters =
          subst (λ (l : List (List ℕ)). Contains l characters) (ap (covered_before (texts_before new.text new.log.done new.log.undone)) none) past in
          absurd (omega (arith, nothing.1))
    ]

unchanged : (old new outcome : State) → new ≡ outcome → covered outcome.document ≡ covered old.document → CoversNoMore old.document new.document
unchanged old new outcome is same = covered_same old.document new.document (ap (λ (s : State). covered s.document) is ∙ same)

set_none : (old new : State) (ranges : List AtomicRange) (rejected : List RejectedAtomicRange) (returned : CallResult) → returned ≡ ranges_result rejected → new ≡ with_ranges_if rejected old ranges →
    (returned ≡ Done → ⊥) → CoversNoMore old.document new.document
set_none old new ranges [] returned e k none = absurd (none e)
set_none old new ranges (range ∷ rejected) returned e k none = unchanged old new old k refl

sets_done : (ranges : Bor (List AtomicRange)) (returned : CallResult) → ¬ SetsRanges (call.TrySetAtomicRanges ranges) returned → returned ≡ Done → ⊥
sets_done ranges returned none done = none (subst (SetsRanges (call.TrySetAtomicRanges ranges)) (sym done) tt)

-- ---- each call

module _ (laws : TheLaws) where
  reckoned : Reckoning Covers
  reckoned = record {
    none = λ old new same. covered_same old new (shown_covered old new same);
    same = λ old new other splices is h characters stored. h characters (covered_same new other (shown_covered new other is) characters stored);
    two = λ old between new first second h k characters stored. h characters (k characters stored);
    one = λ document splice typed now sound fits whole. laws.edited document splice typed now sound fits;
    forgotten = forgets;
  }

  past : Past Covers
  past = record { undos = laws.undone; redos = laws.redone; stays = λ document sound characters stored. stored; same = reckoned.same }

  once : AtOnce Covers
  once = at_once_by Covers reckoned (λ old new splices layout h. h)

  pub call_covers : (old new : State) (made : Call) (returned : CallResult) → IsSound old.document → ¬ SetsRanges made returned → IsResultOf old made returned → IsAfterCall old made returned new →
      CoversNoMore old.document new.document
  call_covers old new (call.SetLines items cursor) returned h none e k = absurd (none tt)
  call_covers old new call.ClearAtomicRanges returned h none e k = absurd (none tt)
  call_covers old new (call.TrySetAtomicRanges ranges) returned h none e k = set_none old new ranges.now (rejected_ranges old ranges.now) returned e k (sets_done ranges returned none)
  call_covers old new (call.SetTabLength columns) returned h none e k = unchanged old new _ k refl
  call_covers old new (call.SetWrapMode mode) returned h none e k = unchanged old new _ k refl
  call_covers old new (call.SetLineNumberStyle style) returned h none e k = unchanged old new _ k refl
  call_covers old new call.RemoveLineNumber returned h none e k = unchanged old new _ k refl
  call_covers old new (call.SetAlignment alignment) returned h none e k = unchanged old new _ k refl
  call_covers old new (call.SetChangeLog unit) returned h none e k = unchanged old new _ k refl
  call_covers old new call.TakeChanges returned h none e k = unchanged old new _ k refl
  call_covers old new (call.Render area) returned h none e k = covered_same old.document new.document (ap covered (drawn_document old new area k))
  call_covers old new (call.Input input) returned h none e k =
      by_any_act Covers (asked_by input.now) old.document new.document _ (calls_by Covers Covers Covers reckoned once past old new (call.Input input) returned h k)
  call_covers old new (call.InputWithoutShortcuts input) returned h none e k =
      by_any_act Covers (asked_without_shortcuts input.now) old.document new.document _ (calls_by Covers Covers Covers reckoned once past old new (call.InputWithoutShortcuts input) returned h k)
  call_covers old new made returned h none e k = calls_by Covers Covers Covers reckoned once past old new made returned h k

  pub left_covers : (old new : State) (made : Call) → IsSound old.document → IsAfterOutOfMemory old made new → CoversNoMore old.document new.document
  left_covers old new made h k = ⊎_elim (λ none. none) (λ gone. gone) (calls_left Covers reckoned old new made h k)

  -- an action, made or out of memory
  pub action_covers : (old new : State) (asked : Action) → IsSound old.document → IsLeftByAction old asked new → CoversNoMore old.document new.document
  action_covers old new asked h (inl made) = by_any_act Covers asked old.document new.document _ (acts_by Covers Covers Covers reckoned once past old new asked h made)
  action_covers old new asked h (inr ran_out) =
      ⊎_elim
      (λ same. unchanged old new old same refl)
      (λ gone. subst (λ (s : State). CoversNoMore old.document s.document) (sym gone)
      (reckoned.same old.document (unselected old).document (settled Forward (unselected old)).document (selected_splices old.document) (settled_layout Forward (unselected old))
      (selected_by Covers reckoned old.document old.time h).0))
      (any_left old new (call_of_action asked) ran_out)
