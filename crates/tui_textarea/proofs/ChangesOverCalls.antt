-- How the changes lead from one text to another over each call.
use Rattle.std.proofs.Common.{◌≡◌, ◌∙◌, ℕ, Bool, List, [], ◌∷◌, ◌++◌, Option, None, Some, ap, refl, subst, sym, ⊎_elim}
use Rattle.std.specs.Prelude.{IfNone, IfSome}
use Rattle.textarea_calls.specs.declared.call.Call.{Call}
use Rattle.textarea_calls.specs.declared.call.Call.TheVariants as call
use Rattle.textarea_data.specs.declared.range.AtomicRange.{AtomicRange}
use Rattle.textarea_data.specs.declared.range.RejectedAtomicRange.{RejectedAtomicRange}
use Rattle.textarea_text.specs.Place.{Place}
use Rattle.textarea_text.specs.Splice.{Fits, Splice}
use Rattle.textarea_text.specs.Text.{Symbol, lines_of}
use Rattle.textarea_change.specs.declared.change.ChangeUnit.{ChangeUnit}
use Rattle.textarea_search.specs.PlainTexts.{text_pattern}
use Rattle.textarea_document.specs.Changes.{ChangeView, LoggedChanges as Log}
use Rattle.textarea_document.specs.ChangesLead.{ChangesLead}
use Rattle.textarea_document.specs.DocumentState.{DocumentState, changes_taken, lines_replaced}
use Rattle.textarea_document.specs.Outcomes.{after_edit, after_redo, after_undo}
use Rattle.textarea_document.specs.Sound.{IsSound}
use Rattle.textarea_document.proofs.Changing.{leads_on, no_change_leads}
use Rattle.tui_textarea.specs.CallResults.{CallResult, Measured, PatternRejected, Place as PlaceFound}
use Rattle.tui_textarea.specs.Calls.{ranges_result, rejected_ranges, with_ranges_if, with_lines}
use Rattle.tui_textarea.specs.ChangesOverCalls.{ChangesFollow, SetsLog, taken_by}
use Rattle.tui_textarea.specs.Guards.{bars_lines}
use Rattle.tui_textarea.specs.Input.{asked_by, asked_without_shortcuts}
use Rattle.tui_textarea.specs.Outcomes.{IsAfterCall, IsAfterOutOfMemory, IsPatternCallResult, IsResultOf}
use Rattle.tui_textarea.specs.State.{State}
use Rattle.tui_textarea.proofs.Acting.{Past, by_any_act, calls_by, calls_left}
use Rattle.tui_textarea.proofs.Cases.{by_test}
use Rattle.tui_textarea.proofs.Frames.{drawn_document}
use Rattle.textarea_data.specs.declared.range.AtomicCursorBias.TheVariants.{Forward}
use Rattle.tui_textarea.specs.Ranges.{ranges_accepted}
use Rattle.tui_textarea.specs.Units.{settled}
use Rattle.tui_textarea.proofs.Replacing.{AtOnce, at_once_by}
use Rattle.tui_textarea.proofs.Settling.{LayoutAndRanges, Visible, layout_and_ranges, settled_layout, settled_text, visible}
use Rattle.tui_textarea.proofs.Stepping.{Reckoning}

-- ---- the laws of documents

pub record TheLaws : Type 0 where
  pub edited : (document : DocumentState) (splice : Splice) (typed : Bool) (now : ℕ) → Fits document.text splice → ChangesLead document (after_edit document splice typed now)
  pub undone : (document : DocumentState) → IsSound document → ChangesLead document (after_undo document)
  pub redone : (document : DocumentState) → IsSound document → ChangesLead document (after_redo document)
  pub lines : (document : DocumentState) (rows : List (List ℕ)) (cursor : Place) → ChangesLead document (lines_replaced document rows cursor)

-- the relation of two documents, whatever the splices between them
abbrev pub Logs : DocumentState → List Splice → DocumentState → Type 0
Logs old splices new = ChangesLead old new

stays : (old new : DocumentState) → visible new ≡ visible old → ChangesLead old new
stays old new same = no_change_leads old new (ap (λ (s : Visible). s.0.text) same) (ap (λ (s : Visible). s.2) same)

shown : (old new : DocumentState) → layout_and_ranges new ≡ layout_and_ranges old → visible new ≡ visible old
shown old new same = ap (λ (s : LayoutAndRanges). (s.0, s.1, s.2)) same

unchanged : (old new outcome : State) → new ≡ outcome → outcome.document.text ≡ old.document.text → outcome.document.changes ≡ old.document.changes → ChangesLead old.document new.document
unchanged old new outcome is text changes =
    no_change_leads old.document new.document (ap (λ (s : State). s.document.text) is ∙ text) (ap (λ (s : State). s.document.changes) is ∙ changes)

set_ranges : (old new : State) (ranges : List AtomicRange) (rejected : List RejectedAtomicRange) → new ≡ with_ranges_if rejected old ranges → ChangesLead old.document new.document
set_ranges old new ranges [] k =
    let accepted = ranges_accepted old ranges in
    unchanged old new (settled Forward accepted) k (settled_text Forward accepted) (ap (λ (s : LayoutAndRanges). s.2) (settled_layout Forward accepted))
set_ranges old new ranges (range ∷ rejected) k = unchanged old new old k refl refl

-- ---- what a call returns

-- the call returns changes
abbrev pub Takes : Call → Type 0
Takes call.TakeChanges = Unit {0}
Takes made = ⊥

ranges_taken : (rejected : List RejectedAtomicRange) → taken_by (ranges_result rejected) ≡ []
ranges_taken [] = refl
ranges_taken (range ∷ rejected) = refl

pattern_taken : (state : State) (text : List ℕ) (returned : CallResult) → IsPatternCallResult state text returned → taken_by returned ≡ []
pattern_taken state text PatternRejected h = refl
pattern_taken state text returned h = ap taken_by h

-- any other call returns none
none_taken : (state : State) (made : Call) (returned : CallResult) → ¬ Takes made → IsResultOf state made returned → taken_by returned ≡ []
none_taken state call.TakeChanges returned none h = absurd (none tt)
none_taken state (call.SetSearchPattern text) returned none h = pattern_taken state text.now returned h
none_taken state (call.SetSearchText text ignore_case whole_word) returned none h = pattern_taken state (text_pattern text.now ignore_case whole_word) returned h
none_taken state (call.Measure width) (Measured measure) none h = refl
none_taken state (call.Measure width) returned none h = absurd h
none_taken state (call.CursorAtPosition cell) (PlaceFound place) none h = refl
none_taken state (call.CursorAtPosition cell) returned none h = absurd h
none_taken state (call.TrySetAtomicRanges ranges) returned none h = ap taken_by h ∙ ranges_taken (rejected_ranges state ranges.now)
none_taken state made returned none h = ap taken_by h

-- ---- each call

-- more changes lead on, and the call returns none
follows : (old new : DocumentState) (returned : CallResult) → taken_by returned ≡ [] → ChangesLead old new → ChangesFollow old (taken_by returned) new
follows old new returned none h = record {
  more = h.more;
  unit = ap (λ (log : Log). log.unit) h.changes;
  made = sym (ap (λ (log : Log). log.made) h.changes) ∙ ap (λ (taken : List ChangeView). taken ++ new.changes.made) (sym none);
  leads = h.leads;
  none = h.none;
}

-- the log's changes are returned, and it is emptied
text_stays : (unit : Option ChangeUnit) (text : List Symbol) → IfSome unit (λ u. text ≡ text)
text_stays None text = tt
text_stays (Some unit) text = refl

no_more : (unit : Option ChangeUnit) (nothing : List ChangeView) → nothing ≡ [] → IfNone unit (nothing ≡ [])
no_more None nothing is = is
no_more (Some unit) nothing is = tt

all_taken : (document : DocumentState) → ChangesFollow document document.changes.made (changes_taken document)
all_taken document = record {
  more = [];
  unit = refl;
  made = refl;
  leads = text_stays document.changes.unit document.text;
  none = no_more document.changes.unit [] refl;
}

module _ (laws : TheLaws) where
  reckoned : Reckoning Logs
  reckoned = record {
    none = λ old new same. stays old new (shown old new same);
    same = λ old new other splices same h. leads_on old new other h (stays new other (shown new other same));
    two = λ old between new first second h k. leads_on old between new h k;
    one = λ document splice typed now sound fits whole. laws.edited document splice typed now fits;
    forgotten = λ old new same none. stays old new same;
  }

  past : Past Logs
  past = record { undos = laws.undone; redos = laws.redone; stays = λ document sound. stays document document refl; same = reckoned.same }

  once : AtOnce Logs
  once = at_once_by Logs reckoned (λ old new splices layout h. record { more = h.more; changes = h.changes; leads = h.leads; none = h.none })

  -- any call but the two of the log
  leads : (old new : State) (made : Call) (returned : CallResult) → (¬ SetsLog made) → (¬ Takes made) → IsSound old.document → IsAfterCall old made returned new → ChangesLead old.document new.document
  leads old new (call.SetChangeLog unit) returned sets takes h k = absurd (sets tt)
  leads old new call.TakeChanges returned sets takes h k = absurd (takes tt)
  leads old new (call.SetLines items cursor) returned sets takes h k =
      subst (λ (s : State). ChangesLead old.document s.document) (sym k)
      (by_test (λ (s : State). ChangesLead old.document s.document) (bars_lines old (lines_of items.now)) old (settled Forward (with_lines old items.now cursor))
      (λ barred. stays old.document old.document refl)
      (λ set. reckoned.same old.document (with_lines old items.now cursor).document (settled Forward (with_lines old items.now cursor)).document [] (settled_layout Forward (with_lines old items.now cursor))
      (laws.lines old.document (lines_of items.now) cursor)))
  leads old new (call.SetTabLength columns) returned sets takes h k = unchanged old new _ k refl refl
  leads old new (call.SetWrapMode mode) returned sets takes h k = unchanged old new _ k refl refl
  leads old new (call.SetLineNumberStyle style) returned sets takes h k = unchanged old new _ k refl refl
  leads old new call.RemoveLineNumber returned sets takes h k = unchanged old new _ k refl refl
  leads old new (call.SetAlignment alignment) returned sets takes h k = unchanged old new _ k refl refl
  leads old new (call.TrySetAtomicRanges ranges) returned sets takes h k = set_ranges old new ranges.now (rejected_ranges old ranges.now) k
  leads old new call.ClearAtomicRanges returned sets takes h k = unchanged old new _ k refl refl
  leads old new (call.Render area) returned sets takes h k =
      let is = drawn_document old new area k in
      no_change_leads old.document new.document (ap (λ (d : DocumentState). d.text) is) (ap (λ (d : DocumentState). d.changes) is)
  leads old new (call.Input input) returned sets takes h k =
      by_any_act Logs (asked_by input.now) old.document new.document _ (calls_by Logs Logs Logs reckoned once past old new (call.Input input) returned h k)
  leads old new (call.InputWithoutShortcuts input) returned sets takes h k =
      by_any_act Logs (asked_without_shortcuts input.now) old.document new.document _ (calls_by Logs Logs Logs reckoned once past old new (call.InputWithoutShortcuts input) returned h k)
  leads old new made returned sets takes h k = calls_by Logs Logs Logs reckoned once past old new made returned h k

  pub call_follows : (old new : State) (made : Call) (returned : CallResult) → (¬ SetsLog made) → IsSound old.document → IsResultOf old made returned → IsAfterCall old made returned new
      → ChangesFollow old.document (taken_by returned) new.document
  call_follows old new call.TakeChanges returned sets h e k =
      subst (λ (a : CallResult). ChangesFollow old.document (taken_by a) new.document) (sym e)
      (subst (λ (s : State). ChangesFollow old.document old.document.changes.made s.document) (sym k) (all_taken old.document))
  call_follows old new made returned sets h e k =
      follows old.document new.document returned (none_taken old made returned (λ t. t) e) (leads old new made returned sets (λ t. t) h k)

  pub left_leads : (old new : State) (made : Call) → IsSound old.document → IsAfterOutOfMemory old made new → ChangesLead old.document new.document
  left_leads old new made h k = ⊎_elim (λ none. none) (λ gone. gone) (calls_left Logs reckoned old new made h k)
