-- Runs of events and saves: what the disk was given is the text that counts as saved.
use Rattle.std.proofs.Common.{◌≡◌, ◌⊎◌, ◌∙◌, Bool, true, false, List, [], ◌∷◌, Option, None, Some, ap, if◌then◌else◌, inl, inr, refl, subst, sym}
use Rattle.std.specs.declared.time.Duration.{Duration}
use Rattle.std.proofs.lemmas.Bool.{false≢true}
use Rattle.textarea_editor.proofs.Drafts.{honest_same, honest_then}
use Rattle.textarea_editor.proofs.EventRuns.{same_written, step_honest}
use Rattle.textarea_editor.proofs.Saved.{unchanged_is_saved, unsaved_is_changed}
use Rattle.textarea_editor.specs.Draft.{IsHonest, IsSaved, IsUnsaved}
use Rattle.textarea_editor.specs.Effects.{IsWritten, text_of_saving}
use Rattle.textarea_editor.specs.Steps.{IsStep}
use Rattle.textarea_editor.specs.Turns.{AreTurns, GivenFile, HasText, IsAfterSaving, IsCarriedOut, KeepsText, Turn, file_of, given_after, given_by}
use Rattle.textarea_editor.specs.declared.draft.Draft.{Draft}
use Rattle.textarea_editor.specs.declared.editor.Editor.{Editor}
use Rattle.textarea_editor.specs.declared.effect.Effect.{Effect}
use Rattle.textarea_editor.specs.declared.effect.Effect.TheVariants.{Recover, Save}
use Rattle.textarea_editor.specs.declared.effect.SaveRequest.{SaveRequest}
use Rattle.textarea_files.specs.DiskFiles.{is_saved}
use Rattle.textarea_files.specs.declared.file_text.LineEnds.{LineEnds}
use Rattle.textarea_files.specs.declared.save_end.SaveEnd.{SaveEnd}
use Rattle.textarea_terminal.specs.declared.input.event.Event.{Event}
use Rattle.textarea_text.specs.Text.{lines}

-- the file has the text of a saved draft, from which the editor was led to its draft
pub record StandsAs (file : GivenFile) (now : Editor) : Type 0 where
  pub base : Draft
  pub saved : IsSaved base
  pub honest : IsHonest base now.draft
  pub written : IsWritten base.area now.line_end file.text

-- the editor was led to its draft from one that counts as changed until it is saved
pub record ChangedSince (now : Editor) : Type 0 where
  pub base : Draft
  pub unsaved : IsUnsaved base
  pub honest : IsHonest base now.draft

abbrev pub Stands : Option GivenFile → Editor → Type 0
Stands None now = Unit {0}
Stands (Some file) now = StandsAs file now ⊎ ChangedSince now

-- the draft was led to another one, and how its lines end is the same
pub led : (given : Option GivenFile) (old new : Editor) → IsHonest old.draft new.draft → new.line_end ≡ old.line_end → Stands given old → Stands given new
led None old new honest end stands = tt
led (Some file) old new honest end (inl stands) = inl (record {
  base = stands.base;
  saved = stands.saved;
  honest = honest_then stands.base old.draft new.draft stands.honest honest;
  written = subst (λ (e : LineEnds). IsWritten stands.base.area e file.text) (sym end) stands.written;
})
led (Some file) old new honest end (inr changed) = inr (record {
  base = changed.base;
  unsaved = changed.unsaved;
  honest = honest_then changed.base old.draft new.draft changed.honest honest;
})

kept : (given : Option GivenFile) (old new : Editor) → new.draft ≡ old.draft → new.line_end ≡ old.line_end → Stands given old → Stands given new
kept given old new draft end stands = led given old new (subst (λ (d : Draft). IsHonest old.draft d) (sym draft) (honest_same old.draft)) end stands

-- a save
told : (given : Option GivenFile) (saving : SaveRequest) (end : SaveEnd) (is : Bool) (asked new : Editor) → is_saved end ≡ is → IsWritten asked.draft.area asked.line_end (text_of_saving saving)
    → IsAfterSaving end asked new → Stands given asked → Stands (if is then Some (file_of saving) else given) new
told given saving end true asked new is written after stands = inl (record {
  base = new.draft;
  saved = (after.saved is).saved;
  honest = honest_same new.draft;
  written = same_written asked.draft new.draft asked.line_end new.line_end (text_of_saving saving) (after.saved is).area after.same_end written;
})
told given saving end false asked new is written after stands = kept given asked new (after.failed is) after.same_end stands

-- the text of a journal
recovered : (given : Option GivenFile) (asked new : Editor) → (IsUnsaved new.draft ⊎ KeepsText asked new) → Stands given asked → Stands given new
recovered None asked new is stands = tt
recovered (Some file) asked new (inl unsaved) stands = inr (record { base = new.draft; unsaved = unsaved; honest = honest_same new.draft })
recovered (Some file) asked new (inr keeps) stands = kept (Some file) asked new keeps.draft keeps.end stands

carried : (given : Option GivenFile) (old asked new : Editor) (now : Duration) (event : Event) (effect : Effect) (end : SaveEnd) → IsStep old now event effect asked
    → IsCarriedOut effect end asked new → Stands given asked → Stands (given_by effect end given) new
carried given old asked new now event (Save saving) end step is stands = told given saving end (is_saved end) asked new refl step.carries is stands
carried given old asked new now event Recover end step is stands = recovered given asked new is stands
carried given old asked new now event effect end step is stands = kept given asked new is.draft is.end stands

pub turns_stand : (given : Option GivenFile) (old new : Editor) (turns : List Turn) → AreTurns old turns new → Stands given old → Stands (given_after given turns) new
turns_stand given old new [] same stands = subst (λ (e : Editor). Stands given e) (sym same) stands
turns_stand given old new (this ∷ later) are stands =
    let moment = this.moment in
    turns_stand (given_by moment.effect this.end given) this.after new later are.2
    (carried given old moment.after this.after moment.now moment.event moment.effect this.end are.0 are.1
    (led given old moment.after (step_honest old moment.after moment.now moment.event moment.effect are.0.led) are.0.end stands))

pub unchanged_stands : (file : GivenFile) (now : Editor) → (StandsAs file now ⊎ ChangedSince now) → now.draft.is_changed ≡ false → IsWritten now.draft.area now.line_end file.text
unchanged_stands file now (inl stands) is = record {
  strings = stands.written.strings;
  of_text = stands.written.of_text ∙ sym (ap lines (unchanged_is_saved stands.base now.draft stands.honest stands.saved is));
  joined = stands.written.joined;
}
unchanged_stands file now (inr changed) is = absurd (false≢true (sym is ∙ unsaved_is_changed changed.base now.draft changed.honest changed.unsaved))

pub stands_first : (first : Option GivenFile) (opened : Editor) → HasText first opened → Stands first opened
stands_first None opened has = tt
stands_first (Some file) opened has = inl (record { base = opened.draft; saved = has.0; honest = honest_same opened.draft; written = has.1 })
