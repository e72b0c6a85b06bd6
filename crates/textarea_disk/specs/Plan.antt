-- The steps of a save, in order, and which failures remove the copy.
use Rattle.std.specs.Prelude.{◌&&◌, ◌==◌, nat_le, if◌then◌else◌, Bool, true, false, List, [], ◌∷◌}
use Rattle.textarea_disk.specs.declared.step.DiskStep.{DiskStep}
use Rattle.textarea_disk.specs.declared.step.DiskStep.TheVariants.{Create, Grow, Write, SetMode, Sync, SyncFolder, Rename, Remove}
use Rattle.textarea_disk.specs.declared.step.Ownership.{Ownership}
use Rattle.textarea_disk.specs.declared.step.SaveFile.{SaveFile}
use Rattle.textarea_disk.specs.declared.step.SaveFile.TheVariants as place
use Rattle.textarea_disk.specs.declared.step.SavePlan.{SavePlan}
use Rattle.textarea_disk.specs.declared.step.SavePlan.TheVariants.{Beside, InPlace}

-- Beside: a whole and synced copy takes the name. In place: the file is written over while a whole and synced copy has a synced name.
abbrev pub steps_of : SavePlan → List DiskStep
steps_of Beside = Create ∷ Write place.Copy ∷ SetMode place.Copy ∷ Sync place.Copy ∷ Rename ∷ SyncFolder place.File ∷ []
steps_of InPlace =
    Create ∷ Write place.Copy ∷ Sync place.Copy ∷ SyncFolder place.Copy ∷ Grow ∷ Write place.File ∷ SetMode place.File ∷ Sync place.File ∷ SyncFolder place.File ∷ Remove ∷ []

abbrev pub is_copy : SaveFile → Bool
is_copy place.File = false
is_copy place.Copy = true

-- if this step fails, there is a copy, and the file has its old bytes
abbrev pub copy_is_removed : DiskStep → Bool
copy_is_removed Create = false
copy_is_removed Grow = true
copy_is_removed (Write p) = is_copy p
copy_is_removed (SetMode p) = is_copy p
copy_is_removed (Sync p) = is_copy p
copy_is_removed (SyncFolder p) = is_copy p
copy_is_removed Rename = true
copy_is_removed Remove = false

-- a rename of the copy to the file's name breaks no other name's link to the file, and changes neither owner nor device
abbrev pub is_kept : Ownership → Ownership → Bool
is_kept file copy = nat_le file.links 1 && file.owner == copy.owner && file.group == copy.group && file.device == copy.device

abbrev pub plan_of : Ownership → Ownership → SavePlan
plan_of file copy = if is_kept file copy then Beside else InPlace
