-- A step of a save on the system's disk, as far as the toolchain's files say what they do.
use Rattle.std.specs.Prelude.{◌≡◌, Bool, true, false, ℕ, List, Option}
use Rattle.std.specs.Io.KnownBytes.{Appends}
use Rattle.textarea_disk.specs.declared.step.DiskStep.{DiskStep}
use Rattle.textarea_disk.specs.declared.step.DiskStep.TheVariants.{Write}
use Rattle.textarea_disk.specs.declared.step.SaveFile.TheVariants as place
use Rattle.textarea_files.specs.declared.disk.carrying_out.Saving.{Saving}

-- the text is added to the copy's bytes, which are none before; where the write fails, a part of it may be
abbrev pub IsCopyWritten : {F : Type 0} → (F → Option (List ℕ)) → List ℕ → DiskStep → Bool → F → F → Type 0
IsCopyWritten contents text (Write place.Copy) true old new = Appends (contents old) (contents new) text
IsCopyWritten contents text (Write place.Copy) false old new = Unit {0}
IsCopyWritten contents text step made old new = new ≡ old

-- of a step: the names and the text stay those of the save, and the copy's bytes are changed by its write only, to the text's
pub record IsStepOfSaving {R F : Type 0} (contents : F → Option (List ℕ)) (old : Saving R F) (step : DiskStep) (made : Bool) (new : Saving R F) : Type 0 where
  pub same_target : new.target ≡ old.target
  pub same_text : new.text ≡ old.text
  pub same_copy : new.copy.name ≡ old.copy.name
  pub written : IsCopyWritten contents old.text.now step made old.copy.file new.copy.file
