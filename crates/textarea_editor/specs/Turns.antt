-- Events and the saves that they ask for, one after another, and what the disk was given by them.
use Rattle.std.specs.Prelude.{◌≡◌, ◌⊎◌, ℕ, true, false, List, [], ◌∷◌, Option, None, Some, string_bytes, if◌then◌else◌}
use Rattle.textarea_editor.specs.Draft.{IsSaved, IsSavedFrom, IsUnsaved}
use Rattle.textarea_editor.specs.Effects.{IsWritten, text_of_saving}
use Rattle.textarea_editor.specs.Steps.{IsStep, Moment}
use Rattle.textarea_editor.specs.declared.editor.Editor.{Editor}
use Rattle.textarea_editor.specs.declared.effect.Effect.{Effect}
use Rattle.textarea_editor.specs.declared.effect.Effect.TheVariants.{Recover, Save}
use Rattle.textarea_editor.specs.declared.effect.SaveRequest.{SaveRequest}
use Rattle.textarea_files.specs.DiskFiles.{is_saved}
use Rattle.textarea_files.specs.declared.save_end.SaveEnd.{SaveEnd}

-- an event, how the save ended that it asked for, if it asked for one, and the editor after both
pub record Turn : Type 0 where
  pub moment : Moment
  pub end : SaveEnd
  pub after : Editor

-- how a save ended was told to the editor
pub record IsAfterSaving (end : SaveEnd) (asked new : Editor) : Type 0 where
  pub saved : is_saved end ≡ true → IsSavedFrom asked.draft new.draft
  pub failed : is_saved end ≡ false → new.draft ≡ asked.draft
  pub same_end : new.line_end ≡ asked.line_end

-- the text and how its lines end are as before
pub record KeepsText (asked new : Editor) : Type 0 where
  pub draft : new.draft ≡ asked.draft
  pub end : new.line_end ≡ asked.line_end

-- a save was tried, and the editor told; or the text of a journal was taken, unless memory ran out
abbrev pub IsCarriedOut : Effect → SaveEnd → Editor → Editor → Type 0
IsCarriedOut (Save saving) end asked new = IsAfterSaving end asked new
IsCarriedOut Recover end asked new = IsUnsaved new.draft ⊎ KeepsText asked new
IsCarriedOut effect end asked new = KeepsText asked new

-- the turns lead, one after another, from the old editor to the new one
abbrev pub AreTurns : Editor → List Turn → Editor → Type 0
AreTurns old [] new = new ≡ old
AreTurns old (this ∷ later) new =
    IsStep old this.moment.now this.moment.event this.moment.effect this.moment.after
    × IsCarriedOut this.moment.effect this.end this.moment.after this.after × AreTurns this.after later new

-- a file as the disk was given it
pub record GivenFile : Type 0 where
  pub name : List ℕ
  pub text : List ℕ

abbrev pub text_of_file : GivenFile → List ℕ
text_of_file file = file.text

abbrev pub file_of : SaveRequest → GivenFile
file_of saving = record { name = string_bytes saving.name; text = text_of_saving saving }

-- the editor's text is that of the file, if there is one
abbrev pub HasText : Option GivenFile → Editor → Type 0
HasText None editor = Unit {0}
HasText (Some file) editor = IsSaved editor.draft × IsWritten editor.draft.area editor.line_end file.text

-- the file that the disk was given last, by a save that succeeded, after this effect
abbrev pub given_by : Effect → SaveEnd → Option GivenFile → Option GivenFile
given_by (Save saving) end before = if is_saved end then Some (file_of saving) else before
given_by effect end before = before

-- and after these turns
abbrev pub given_after : Option GivenFile → List Turn → Option GivenFile
given_after before [] = before
given_after before (this ∷ later) = given_after (given_by this.moment.effect this.end before) later
