-- Runs of events.
use Rattle.std.proofs.Common.{◌≡◌, ◌≢◌, ◌⊎◌, ◌∙◌, ℕ, false, true, List, [], ◌∷◌, ◌++◌, ap, inl, inr, refl, subst, sym}
use Rattle.std.specs.declared.time.Duration.{Duration}
use Rattle.textarea_calls.specs.declared.call.Call.{Call}
use Rattle.textarea_calls.specs.declared.call.Call.TheVariants.{SetNow}
use Rattle.textarea_editor.proofs.Drafts.{honest_same, honest_then, makes_none, makes_then}
use Rattle.textarea_editor.proofs.Saved.{saved_is_unchanged, unchanged_is_saved, unsaved_is_changed}
use Rattle.textarea_editor.specs.Draft.{FailsIn, FailsInAsked, HasCopy, IsHonest, IsSaved, IsSavedFrom, IsUnsaved, Makes, MakesSome}
use Rattle.textarea_editor.specs.declared.draft.Draft.{Draft}
use Rattle.textarea_editor.specs.Editor.{AsksToSave, MayQuit}
use Rattle.textarea_editor.specs.Effects.{IsWritten, text_of_saving}
use Rattle.textarea_editor.specs.Steps.{AreSteps, FailsAt, IsStep, IsTimed, MakesCallsOf, Moment, NoneFails, Succeeds}
use Rattle.textarea_editor.specs.declared.editor.Editor.{Editor}
use Rattle.textarea_editor.specs.declared.effect.Effect.{Effect}
use Rattle.textarea_editor.specs.declared.effect.Effect.TheVariants.{Quit, Save}
use Rattle.textarea_editor.specs.declared.effect.SaveRequest.{SaveRequest}
use Rattle.textarea_editor.specs.declared.message.Message.TheVariants.{Memory}
use Rattle.textarea_files.specs.FileText.{file_bytes}
use Rattle.textarea_files.specs.declared.file_text.LineEnds.{LineEnds}
use Rattle.textarea_terminal.specs.declared.input.event.Event.{Event}
use Rattle.textarea_text.specs.Text.{lines}
use Rattle.tui_textarea.specs.Grouping.{typing_ended}
use Rattle.tui_textarea.specs.State.{State}

-- ---- the text after events

failed_honest : (old new : Draft) (first : List Call) (IsAsked : List Call → Type 0) → (FailsIn old first new ⊎ FailsInAsked IsAsked old new) → IsHonest old new
failed_honest old new first IsAsked (inl early) = early.honest
failed_honest old new first IsAsked (inr fails) = fails.fails.honest

pub step_honest : (old new : Editor) (now : Duration) (event : Event) (effect : Effect) → (Succeeds old now event effect new ⊎ FailsAt old now event effect new) → IsHonest old.draft new.draft
step_honest old new now event effect (inl made) = made.makes.makes.honest
step_honest old new now event effect (inr failed) = failed_honest old.draft new.draft (SetNow now ∷ []) (IsTimed old now event) failed.fails

run_honest : (old new : Editor) (moments : List Moment) → AreSteps old moments new → IsHonest old.draft new.draft
run_honest old new [] same = subst (λ (e : Editor). IsHonest old.draft e.draft) (sym same) (honest_same old.draft)
run_honest old new (this ∷ later) steps =
    honest_then old.draft this.after.draft new.draft (step_honest old this.after this.now this.event this.effect steps.0.led) (run_honest this.after new later steps.1)

pub unchanged_since : (saved now : Editor) (moments : List Moment) → AreSteps saved moments now → IsSaved saved.draft → now.draft.is_changed ≡ false → now.draft.area.document.text ≡ saved.draft.area.document.text
unchanged_since saved now moments steps at_first is =
    unchanged_is_saved saved.draft now.draft (run_honest saved now moments steps) at_first is

pub saved_since : (saved now : Editor) (moments : List Moment) → AreSteps saved moments now → IsSaved saved.draft → HasCopy saved.draft → now.draft.area.document.text ≡ saved.draft.area.document.text → now.draft.is_changed ≡ false
saved_since saved now moments steps at_first has is =
    saved_is_unchanged saved.draft now.draft (run_honest saved now moments steps) at_first has is

pub changed_since : (recovered now : Editor) (moments : List Moment) → AreSteps recovered moments now → IsUnsaved recovered.draft → now.draft.is_changed ≡ true
changed_since recovered now moments steps at_first =
    unsaved_is_changed recovered.draft now.draft (run_honest recovered now moments steps) at_first

may_quit : (saved old new : Editor) → IsHonest saved.draft new.draft → IsSaved saved.draft → MayQuit old new.draft → (AsksToSave old ⊎ (new.draft.area.document.text ≡ saved.draft.area.document.text))
may_quit saved old new honest at_first (inl is) = inr (unchanged_is_saved saved.draft new.draft honest at_first is)
may_quit saved old new honest at_first (inr asked) = inl asked

pub quits_after : (saved old new : Editor) (moments : List Moment) (now : Duration) (event : Event) → AreSteps saved moments old → IsSaved saved.draft → IsStep old now event Quit new
    → (AsksToSave old ⊎ (new.draft.area.document.text ≡ saved.draft.area.document.text))
quits_after saved old new moments now event steps at_first step =
    let honest = honest_then saved.draft old.draft new.draft (run_honest saved old moments steps) (step_honest old new now event Quit step.led) in
    may_quit saved old new honest at_first step.carries

-- ---- the calls of events

step_made : (old new : Editor) (now : Duration) (event : Event) (effect : Effect) → new.message ≢ Memory → (Succeeds old now event effect new ⊎ FailsAt old now event effect new) → MakesSome (IsTimed old now event) old.draft new.draft
step_made old new now event effect other (inl made) = made.makes
step_made old new now event effect other (inr failed) = absurd (other failed.message)

pub run_made : (old new : Editor) (moments : List Moment) → AreSteps old moments new → NoneFails moments → MakesCallsOf old moments new
run_made old new [] same none = record {
  calls = [];
  are = refl;
  makes = subst (λ (e : Editor). Makes old.draft [] e.draft) (sym same) (makes_none old.draft);
}
run_made old new (this ∷ later) steps none =
    let first = step_made old this.after this.now this.event this.effect none.0 steps.0.led in
    let rest = run_made this.after new later steps.1 none.1 in
    record {
      calls = first.calls ++ rest.calls;
      are = (first.calls, rest.calls, first.asked, rest.are, refl);
      makes = makes_then old.draft this.after.draft new.draft first.calls rest.calls first.makes rest.makes;
    }

-- ---- a save

-- a text that was written has the same bytes after it was saved
pub same_written : (old new : Draft) (end new_end : LineEnds) (bytes : List ℕ) → new.area ≡ typing_ended old.area → new_end ≡ end → IsWritten old.area end bytes → IsWritten new.area new_end bytes
same_written old new end new_end bytes same ends written = record {
  strings = written.strings;
  of_text = written.of_text ∙ sym (ap (λ (s : State). lines s.document.text) same);
  joined = subst (λ (e : LineEnds). bytes ≡ file_bytes e written.strings) (sym ends) written.joined;
}

-- the text that counts as saved is that of the effect that asked for the save
pub saved_as_asked : (old asked saved : Editor) (now : Duration) (event : Event) (saving : SaveRequest) → IsStep old now event (Save saving) asked
    → IsSavedFrom asked.draft saved.draft → saved.line_end ≡ asked.line_end → IsWritten saved.draft.area saved.line_end (text_of_saving saving)
saved_as_asked old asked saved now event saving step from end =
    same_written asked.draft saved.draft asked.line_end saved.line_end (text_of_saving saving) from.area end step.carries
