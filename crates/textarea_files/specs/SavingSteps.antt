-- A save, as the steps of a plan that are made, and what follows from one that fails.
use Rattle.std.specs.Prelude.{◌≡◌, Bool, true, false, Option, None, Some, Result, Ok, Err}
use Rattle.std.specs.IoError.{error_kind}
use Rattle.std.specs.declared.io.ErrorKind.{ErrorKind}
use Rattle.std.specs.declared.io.ErrorKind.TheVariants as of_kind
use Rattle.textarea_disk.specs.Plan.{copy_is_removed, plan_of, steps_of}
use Rattle.textarea_disk.specs.declared.step.DiskStep.{DiskStep}
use Rattle.textarea_disk.specs.declared.step.DiskStep.TheVariants.{Write, SetMode, Sync, SyncFolder, Rename, Remove}
use Rattle.textarea_disk.specs.declared.step.Ownership.{Ownership}
use Rattle.textarea_disk.specs.declared.step.SaveFile.TheVariants as place
use Rattle.textarea_disk.specs.declared.step.SavePlan.{SavePlan}
use Rattle.textarea_disk.specs.declared.step.SavePlan.TheVariants.{Beside, InPlace}
use Rattle.textarea_files.specs.MadeSteps.{AreMade}
use Rattle.textarea_files.specs.declared.disk.carrying_out.Failure.{Failure}
use Rattle.textarea_files.specs.declared.disk.carrying_out.Way.{Way}
use Rattle.textarea_files.specs.declared.disk.carrying_out.Way.TheVariants as way
use Rattle.textarea_files.specs.declared.disk.made_steps.FailedStep.{FailedStep}
use Rattle.textarea_files.specs.declared.trouble.Trouble.{Trouble}
use Rattle.textarea_files.specs.declared.trouble.Trouble.TheVariants as trouble

-- ---- what is told of a failure

abbrev pub trouble_of : ErrorKind → Trouble
trouble_of of_kind.NotFound = trouble.NoFolder
trouble_of of_kind.NotADirectory = trouble.NoFolder
trouble_of of_kind.PermissionDenied = trouble.Rights
trouble_of of_kind.IsADirectory = trouble.Folder
trouble_of of_kind.StorageFull = trouble.DiskFull
trouble_of of_kind.QuotaExceeded = trouble.DiskFull
trouble_of of_kind.FileTooLarge = trouble.DiskFull
trouble_of of_kind.ReadOnlyFilesystem = trouble.ReadOnly
trouble_of of_kind.OutOfMemory = trouble.Memory
trouble_of of_kind.InvalidData = trouble.NotText
trouble_of _ = trouble.Other

abbrev pub no_other_way : ErrorKind → Failure
no_other_way kind = record { trouble = trouble_of kind; next = None }

-- ---- another way to save

-- where the copy can't take the file's name, the text is written over the file
abbrev pub way_after_rename : ErrorKind → Option Way
way_after_rename of_kind.ResourceBusy = Some way.InPlace
way_after_rename of_kind.CrossesDevices = Some way.InPlace
way_after_rename of_kind.PermissionDenied = Some way.InPlace
way_after_rename _ = None

-- a copy of a file that exists may be in another folder, if it isn't meant for that already
abbrev pub elsewhere : Way → Bool → Option Way
elsewhere way.Elsewhere is_old = None
elsewhere _ true = Some way.Elsewhere
elsewhere _ false = None

abbrev pub way_without_copy : ErrorKind → Way → Bool → Option Way
way_without_copy of_kind.PermissionDenied tried is_old = elsewhere tried is_old
way_without_copy of_kind.ReadOnlyFilesystem tried is_old = elsewhere tried is_old
way_without_copy of_kind.InvalidFilename tried is_old = elsewhere tried is_old
way_without_copy _ tried is_old = None

-- a file that doesn't exist has nothing to keep; that of a copy whose ownership isn't known is kept
abbrev pub plan_by : Option Ownership → Option Ownership → Way → SavePlan
plan_by None copy tried = Beside
plan_by (Some old) (Some copy) way.AsKept = plan_of old copy
plan_by (Some old) _ _ = InPlace

-- ---- the steps

-- why a save failed whose step failed: in the middle of writing over the file, for whatever reason, a part may be written
abbrev pub failure_at : DiskStep → ErrorKind → Failure
failure_at Rename kind = record { trouble = trouble_of kind; next = way_after_rename kind }
failure_at (Write place.File) kind = record { trouble = trouble.InPart; next = None }
failure_at (SetMode place.File) kind = record { trouble = trouble.InPart; next = None }
failure_at (Sync place.File) kind = record { trouble = trouble.InPart; next = None }
failure_at _ kind = no_other_way kind

-- the copy is removed, which may fail, or nothing is done
abbrev pub IsCleanedUp : {M : Type 0} → (M → DiskStep → Bool → M → Type 0) → Bool → M → M → Type 0
IsCleanedUp leads true old new = (removed : Bool) × leads old Remove removed new
IsCleanedUp leads false old new = new ≡ old

-- the text is saved once the file has its name, though no sync made sure of that; else the copy is removed where the file has its old bytes
abbrev pub IsGivenUp : {M : Type 0} → (M → DiskStep → Bool → M → Type 0) → M → DiskStep → ErrorKind → Result Bool Failure → M → Type 0
IsGivenUp leads old (SyncFolder place.File) kind result new = (result ≡ Ok false) × (new ≡ old)
IsGivenUp leads old step kind result new = (result ≡ Err (failure_at step kind)) × IsCleanedUp leads (copy_is_removed step) old new

abbrev pub IsEnded : {M U : Type 0} → (M → DiskStep → Bool → M → Type 0) → M → Result U (FailedStep DiskStep) → Result Bool Failure → M → Type 0
IsEnded leads old (Ok _) result new = (result ≡ Ok true) × (new ≡ old)
IsEnded leads old (Err failed) result new = IsGivenUp leads old failed.step (error_kind failed.error) result new

-- the steps of a plan were made up to the first that failed, and then what its failure asks for
pub record IsPlanMade {M : Type 0} (leads : M → DiskStep → Bool → M → Type 0) (old : M) (plan : SavePlan) (result : Result Bool Failure) (new : M) : Type 0 where
  pub outcome : Result (Unit {0}) (FailedStep DiskStep)
  pub last : M
  pub made : AreMade leads old (steps_of plan) outcome last
  pub ended : IsEnded leads last outcome result new
