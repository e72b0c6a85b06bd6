-- What each step of a save does to a disk, and what is right after a crash or a failure.
use Rattle.std.specs.Prelude.{◌≡◌, ◌≢◌, ◌⊎◌, ◌++◌, ℕ, if◌then◌else◌, List, [], ◌∷◌, length, drop, Option, None, Some, IsSome}
use Rattle.textarea_disk.specs.Disk.{Content, File, everything, nothing, Disk, IsDisk, Leaves, MayLeave, seen, with_entries, with_entry, with_new_file, changed_file}
use Rattle.textarea_disk.specs.Plan.{copy_is_removed}
use Rattle.textarea_disk.specs.declared.step.DiskStep.{DiskStep}
use Rattle.textarea_disk.specs.declared.step.DiskStep.TheVariants.{Create, Grow, Write, SetMode, Sync, SyncFolder, Rename, Remove}
use Rattle.textarea_disk.specs.declared.step.SaveFile.{SaveFile}
use Rattle.textarea_disk.specs.declared.step.SaveFile.TheVariants as place
use Rattle.textarea_disk.specs.declared.step.SavePlan.{SavePlan}
use Rattle.textarea_disk.specs.declared.step.SavePlan.TheVariants.{Beside, InPlace}

-- what is saved: the names of the file and the copy, the text, the mode bits that the file is to have, and those of a new file
pub record Save : Type 0 where
  pub file : List ℕ
  pub copy : List ℕ
  pub text : List ℕ
  pub mode : ℕ
  pub first_mode : ℕ

abbrev pub name_of : Save → SaveFile → List ℕ
name_of save place.File = save.file
name_of save place.Copy = save.copy

-- the file as it is to be
abbrev pub saved : Save → Content
saved save = record { bytes = save.text; mode = save.mode }

-- ---- steps

abbrev pub created_at : Option ℕ → Save → Disk → Disk
created_at None save disk = with_new_file disk save.copy (record { content = record { bytes = []; mode = save.first_mode }; stored = nothing })
created_at (Some n) save disk = disk

abbrev pub grown_file : List ℕ → File → File
grown_file text file =
    record { content = record { bytes = file.content.bytes ++ drop (length file.content.bytes) text; mode = file.content.mode }; stored = nothing }

abbrev pub written : List ℕ → File → File
written text file = record { content = record { bytes = text; mode = file.content.mode }; stored = nothing }

abbrev pub with_mode : ℕ → File → File
with_mode mode file = record { content = record { bytes = file.content.bytes; mode = mode }; stored = nothing }

abbrev pub synced : File → File
synced file = record { content = file.content; stored = everything }

-- the disk after a step that doesn't fail
abbrev pub after_step : Save → DiskStep → Disk → Disk
after_step save Create disk = created_at (disk.names save.copy).now save disk
after_step save Grow disk = changed_file disk save.file (grown_file save.text)
after_step save (Write p) disk = changed_file disk (name_of save p) (written save.text)
after_step save (SetMode p) disk = changed_file disk (name_of save p) (with_mode save.mode)
after_step save (Sync p) disk = changed_file disk (name_of save p) synced
after_step save (SyncFolder p) disk = with_entries disk (name_of save p) (record { now = (disk.names (name_of save p)).now; before = [] })
after_step save Rename disk = with_entry (with_entry disk save.file (disk.names save.copy).now) save.copy None
after_step save Remove disk = with_entry disk save.copy None

abbrev pub after : Save → List DiskStep → Disk → Disk
after save [] disk = disk
after save (step ∷ steps) disk = after save steps (after_step save step disk)

-- ---- crashes

-- The disk has this property before the first step and after each. What a crash may leave during a step it may leave before the step
-- or after it, since what is written isn't synced then.
abbrev pub AtEachPoint : (Disk → Type 0) → Save → List DiskStep → Disk → Type 0
AtEachPoint Property save [] disk = Property disk
AtEachPoint Property save (step ∷ steps) disk = Property disk × AtEachPoint Property save steps (after_step save step disk)

-- a crash leaves this under the name, and nothing else
abbrev pub LeavesOnly : Disk → List ℕ → Option Content → Type 0
LeavesOnly disk name content = Leaves disk name (λ left. left ≡ content)

-- a crash leaves what it could leave under the name before the save, or the whole saved file
abbrev pub LeavesOldOrNew : Save → Disk → Disk → Type 0
LeavesOldOrNew save old disk = Leaves disk save.file (λ left. MayLeave old save.file left ⊎ (left ≡ Some (saved save)))

abbrev pub HasBytes : List ℕ → Option Content → Type 0
HasBytes bytes None = ⊥
HasBytes bytes (Some content) = content.bytes ≡ bytes

-- a crash leaves what it could leave under the name before, or the whole saved file, or else the copy with the whole text under its name
abbrev pub LeavesWholeText : Save → Disk → Disk → Type 0
LeavesWholeText save old disk =
    Leaves disk save.file (MayLeave old save.file) ⊎ LeavesOnly disk save.file (Some (saved save)) ⊎ Leaves disk save.copy (HasBytes save.text)

-- where the file is written over, there is one
abbrev pub HasFile : SavePlan → Option ℕ → Type 0
HasFile Beside entry = Unit {0}
HasFile InPlace entry = IsSome entry

-- a save can begin: the names differ, and no file has the copy's name
pub record CanBegin (plan : SavePlan) (save : Save) (disk : Disk) : Type 0 where
  pub is_disk : IsDisk disk
  pub other_name : save.copy ≢ save.file
  pub no_copy : (disk.names save.copy).now ≡ None
  pub file : HasFile plan (disk.names save.file).now

-- ---- failures

abbrev pub unsynced : File → File
unsynced file = record { content = file.content; stored = nothing }

-- A step that fails may leave any bytes in a file that it writes over; one that fails to grow a file has cut it again, and no sync has
-- made sure of that. No other failure does anything.
abbrev pub after_failure : Save → List ℕ → DiskStep → Disk → Disk
after_failure save bytes Grow disk = changed_file disk save.file unsynced
after_failure save bytes (Write p) disk = changed_file disk (name_of save p) (written bytes)
after_failure save bytes step disk = disk

-- what the program does then
abbrev pub cleanup : DiskStep → List DiskStep
cleanup step = if copy_is_removed step then Remove ∷ [] else []

-- the disk has this property if the program ends its save after any failure
abbrev pub AtEachFailure : (Disk → Type 0) → Save → List ℕ → List DiskStep → Disk → Type 0
AtEachFailure Property save bytes [] disk = Property disk
AtEachFailure Property save bytes (step ∷ steps) disk =
    Property (after save (cleanup step) (after_failure save bytes step disk)) × AtEachFailure Property save bytes steps (after_step save step disk)

-- the file is as it was on the old disk, or saved, and there is no copy
pub record IsWhole (save : Save) (old disk : Disk) : Type 0 where
  pub file : (seen disk save.file ≡ seen old save.file) ⊎ (seen disk save.file ≡ Some (saved save))
  pub no_copy : (disk.names save.copy).now ≡ None
