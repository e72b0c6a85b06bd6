-- How the changes lead from the text at the start of a run to the text at its end.
use Rattle.std.proofs.Common.{◌≡◌, ◌∙◌, ℕ, suc, ◌≤◌, List, [], ◌∷◌, ◌++◌, length, map, take, take_all, Option, None, Some, ap, refl, subst, sym, inl, inr, arith}
use Rattle.std.specs.Prelude.{All, IfNone, IfSome}
use Rattle.std.proofs.lemmas.List.{append-nil, append_assoc, length-map, length-take-le}
use Rattle.std.proofs.lemmas.Option.{slice_get_within}
use Rattle.std.proofs.lemmas.List.Elements.{All-head, All-tail, All-take}
use Rattle.textarea_calls.specs.Possible.{CanBeMade}
use Rattle.textarea_calls.specs.declared.answer.Answer.{Answer}
use Rattle.textarea_calls.specs.declared.call.Call.{Call}
use Rattle.textarea_change.specs.declared.change.ChangeUnit.{ChangeUnit}
use Rattle.textarea_screen.specs.declared.screen.buffer.Buffer.{Buffer}
use Rattle.textarea_document.specs.Changes.{ChangeView, LoggedChanges as Log, changed_by_all}
use Rattle.textarea_document.specs.ChangesLead.{ChangesLead}
use Rattle.textarea_document.specs.DocumentState.{DocumentState}
use Rattle.textarea_document.specs.Sound.{IsSound}
use Rattle.textarea_document.proofs.Changing.{changes_join, none_joined, no_change_leads}
use Rattle.tui_textarea.specs.CallResults.{CallResult, call_result}
use Rattle.tui_textarea.specs.ChangesOverCalls.{ChangesFollow, ChangesOfRun, NoneSetsLog, SetsLog, taken_by, taken_in}
use Rattle.tui_textarea.specs.Outcomes.{IsAfterCall, IsAfterOutOfMemory, IsResultOf}
use Rattle.tui_textarea.specs.Run.{Leads, Run}
use Rattle.tui_textarea.specs.State.{State}

-- the laws of each call
pub record TheLaws : Type 0 where
  pub follow : (old new : State) (made : Call) (returned : CallResult) → (¬ SetsLog made) → IsSound old.document → IsResultOf old made returned → IsAfterCall old made returned new
      → ChangesFollow old.document (taken_by returned) new.document
  pub left : (old new : State) (made : Call) → IsSound old.document → IsAfterOutOfMemory old made new → ChangesLead old.document new.document
  pub sound : (old new : State) (made : Call) (returned : CallResult) → IsSound old.document → CanBeMade made → IsAfterCall old made returned new → IsSound new.document

-- ---- changes after others

follow_on : (old between new : DocumentState) (first second : List ChangeView) → ChangesFollow old first between → ChangesFollow between second new → ChangesFollow old (first ++ second) new
follow_on old between new first second h k = record {
  more = h.more ++ k.more;
  unit = k.unit ∙ h.unit;
  made = sym (append_assoc old.changes.made h.more k.more)
      ∙ ap (λ (made : List ChangeView). made ++ k.more) h.made
      ∙ append_assoc first between.changes.made k.more
      ∙ ap (λ (made : List ChangeView). first ++ made) k.made
      ∙ sym (append_assoc first second new.changes.made);
  leads = changes_join old.changes.unit h.more k.more old.text between.text new.text h.leads
      (subst (λ (u : Option ChangeUnit). IfSome u (λ x. changed_by_all x between.text k.more ≡ new.text)) h.unit k.leads);
  none = none_joined old.changes.unit h.more k.more h.none (subst (λ (u : Option ChangeUnit). IfNone u (k.more ≡ [])) h.unit k.none);
}

-- changes that only the log has
follow_by_log : (old new : DocumentState) → ChangesLead old new → ChangesFollow old [] new
follow_by_log old new h = record {
  more = h.more;
  unit = ap (λ (log : Log). log.unit) h.changes;
  made = sym (ap (λ (log : Log). log.made) h.changes);
  leads = h.leads;
  none = h.none;
}

nothing_follows : (document : DocumentState) → ChangesFollow document [] document
nothing_follows document = follow_by_log document document (no_change_leads document document refl refl)

-- the last call left more changes in the log
follow_left : (old between new : DocumentState) (taken : List ChangeView) → ChangesFollow old taken between → ChangesLead between new → ChangesFollow old taken new
follow_left old between new taken h k =
    subst (λ (t : List ChangeView). ChangesFollow old t new) (append-nil taken) (follow_on old between new taken [] h (follow_by_log between new k))

-- ---- runs

as_many : (old new : State) (buffer displayed : Buffer) (calls : List Call) (results : List CallResult) → Leads old buffer calls results new displayed → length results ≡ length calls
as_many old new buffer displayed [] [] led = refl
as_many old new buffer displayed [] (returned ∷ results) led = absurd led
as_many old new buffer displayed (made ∷ calls) [] led = absurd led
as_many old new buffer displayed (made ∷ calls) (returned ∷ results) led = ap (λ (n : ℕ). suc n) (as_many led.0 new led.1 displayed calls results led.3)

-- what calls lead to, and that the documents stay sound
record Followed (old : State) (results : List CallResult) (new : State) : Type 0 where
  changes : ChangesFollow old.document (taken_in results) new.document
  sound : IsSound new.document

module _ (laws : TheLaws) where
  calls_follow : (old new : State) (buffer displayed : Buffer) (calls : List Call) (results : List CallResult) → IsSound old.document → All CanBeMade calls → NoneSetsLog calls
      → Leads old buffer calls results new displayed → Followed old results new
  calls_follow old new buffer displayed [] [] sound can sets led =
      subst (λ (s : State). Followed old [] s) (sym led.0) (record { changes = nothing_follows old.document; sound = sound })
  calls_follow old new buffer displayed [] (returned ∷ results) sound can sets led = absurd led
  calls_follow old new buffer displayed (made ∷ calls) [] sound can sets led = absurd led
  calls_follow old new buffer displayed (made ∷ calls) (returned ∷ results) sound can sets led =
      let between = led.0 in
      let first = laws.follow old between made returned sets.0 sound led.2.answered led.2.after in
      let next = laws.sound old between made returned sound (All-head CanBeMade made calls can) led.2.after in
      let rest = calls_follow between new led.1 displayed calls results next (All-tail CanBeMade made calls can) sets.1 led.3 in
      record {
        changes = follow_on old.document between.document new.document (taken_by returned) (taken_in results) first rest.changes;
        sound = rest.sound;
      }

  -- the calls that have results
  counted : (old new : State) (calls made : List Call) (results : List Answer) → take (length results) calls ≡ made
      → (NoneSetsLog made → ChangesFollow old.document (taken_in (map call_result results)) new.document) → ChangesOfRun old calls results new
  counted old new calls made results same h = λ sets. h (subst NoneSetsLog same sets)

  pub changes_follow_run : (calls : List Call) (results : List Answer) (refused : Option ℕ) (old new : State) (buffer displayed : Buffer) → IsSound old.document
      → All CanBeMade calls → Run old buffer calls results refused new displayed → ChangesOfRun old calls results new
  changes_follow_run calls results None old new buffer displayed sound can led =
      let many = as_many old new buffer displayed calls (map call_result results) led in
      counted old new calls calls results (take_all (length results) calls (omega (arith, many, length-map results call_result)))
      (λ sets. (calls_follow old new buffer displayed calls (map call_result results) sound can sets led).changes)
  changes_follow_run calls results (Some index) old new buffer displayed sound can ran =
      elim ran [
        | inl never ↦ subst (λ (s : State). ChangesOfRun old calls results s) (sym never.state)
            (subst (λ (r : List Answer). ChangesOfRun old calls r old) (sym never.answered)
            (counted old old calls [] [] refl (λ sets. nothing_follows old.document)))
        | inr stops ↦
            let front = take index calls in
            let many = as_many old stops.before buffer stops.screen front (map call_result results) stops.led in
            let within : index ≤ length calls = omega (arith, slice_get_within calls index stops.call stops.here) in
            let count : length results ≡ index = omega (arith, many, length-map results call_result, length-take-le index calls within) in
            counted old new calls front results (ap (λ (n : ℕ). take n calls) count)
            (λ sets.
            let so_far = calls_follow old stops.before buffer stops.screen front (map call_result results) sound (All-take CanBeMade index calls can) sets stops.led in
            follow_left old.document stops.before.document new.document (taken_in (map call_result results)) so_far.changes
            (laws.left stops.before new stops.call so_far.sound stops.ran_out.left))
      ]
