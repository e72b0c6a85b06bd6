-- The steps of writes of a journal and of its removal, what each does to a disk, and what a crash leaves to be read.
use Rattle.std.specs.Prelude.{◌≡◌, ◌++◌, ℕ, Bool, true, false, List, [], ◌∷◌, length, take, Option, None, Some}
use Rattle.std.specs.List.{AllByRecursion}
use Rattle.textarea_disk.specs.Disk.{Content, Disk, File, Leaves, Durable, changed_file, everything, nothing, up_to, with_entries, with_entry, with_new_file}
use Rattle.textarea_disk.specs.Journal.{AreRead, IsSized, journal_of}
use Rattle.textarea_disk.specs.Save.{synced}
use Rattle.textarea_disk.specs.declared.journal_step.JournalStep.{JournalStep}
use Rattle.textarea_disk.specs.declared.journal_step.JournalStep.TheVariants.{Append, Create, Remove, Sync, SyncFolder}

-- the first write makes the journal, and brings its name to the disk too
abbrev pub writing_steps : Bool → List JournalStep
writing_steps true = Create ∷ Append ∷ Sync ∷ SyncFolder ∷ []
writing_steps false = Append ∷ Sync ∷ []

abbrev pub removing_steps : List JournalStep
removing_steps = Remove ∷ SyncFolder ∷ []

-- a write of a journal: its name, its mode bits, and the bytes that are appended
pub record Writing : Type 0 where
  pub name : List ℕ
  pub mode : ℕ
  pub bytes : List ℕ

-- ---- steps

-- of a new file nothing but the bytes that are appended can be left
abbrev pub made_at : Option ℕ → Writing → Disk → Disk
made_at None writing disk = with_new_file disk writing.name (record { content = record { bytes = []; mode = writing.mode }; stored = up_to 0 })
made_at (Some n) writing disk = disk

-- what is sure of a file of this size stays so
abbrev pub sure_of : Durable → ℕ → Durable
sure_of everything size = up_to size
sure_of (up_to n) size = up_to n
sure_of nothing size = nothing

abbrev pub appended : List ℕ → File → File
appended bytes file =
    record { content = record { bytes = file.content.bytes ++ bytes; mode = file.content.mode }; stored = sure_of file.stored (length file.content.bytes) }

-- the disk after a step that doesn't fail
abbrev pub after_journal_step : Writing → JournalStep → Disk → Disk
after_journal_step writing Create disk = made_at (disk.names writing.name).now writing disk
after_journal_step writing Append disk = changed_file disk writing.name (appended writing.bytes)
after_journal_step writing Sync disk = changed_file disk writing.name synced
after_journal_step writing SyncFolder disk = with_entries disk writing.name (record { now = (disk.names writing.name).now; before = [] })
after_journal_step writing Remove disk = with_entry disk writing.name None

abbrev pub after_writing : Writing → List JournalStep → Disk → Disk
after_writing writing [] disk = disk
after_writing writing (step ∷ steps) disk = after_writing writing steps (after_journal_step writing step disk)

-- the disk has this property before the first step and after each, as for the steps of a save
abbrev pub AtEachStep : (Disk → Type 0) → Writing → List JournalStep → Disk → Type 0
AtEachStep Property writing [] disk = Property disk
AtEachStep Property writing (step ∷ steps) disk = Property disk × AtEachStep Property writing steps (after_journal_step writing step disk)

-- ---- journals on a disk

-- the journal has these records, and a crash leaves it so
pub record HasJournal (disk : Disk) (name : List ℕ) (payloads : List (List ℕ)) : Type 0 where
  pub sized : AllByRecursion IsSized payloads
  pub file : ℕ
  pub mode : ℕ
  pub named : disk.names name ≡ record { now = Some file; before = [] }
  pub whole : disk.files file ≡ record { content = record { bytes = journal_of payloads; mode = mode }; stored = everything }

-- there is none, and a crash leaves none
pub record HasNoJournal (disk : Disk) (name : List ℕ) : Type 0 where
  pub unnamed : disk.names name ≡ record { now = None; before = [] }

-- What a crash leaves of a journal is read as the records that were stored, and the first of those that are written. Without a
-- stored one there may be no journal.
abbrev pub ReadsFirst : List (List ℕ) → List (List ℕ) → Option Content → Type 0
ReadsFirst stored written None = stored ≡ []
ReadsFirst stored written (Some left) =
    (payloads : List (List ℕ)) → AreRead payloads left.bytes → (count : ℕ) × (payloads ≡ stored ++ take count written)

abbrev pub LeavesFirst : List ℕ → List (List ℕ) → List (List ℕ) → Disk → Type 0
LeavesFirst name stored written disk = Leaves disk name (ReadsFirst stored written)

-- what a crash leaves is no journal, or that with all of these records
abbrev pub IsGoneOrWhole : List (List ℕ) → Option Content → Type 0
IsGoneOrWhole stored None = Unit {0}
IsGoneOrWhole stored (Some left) = (payloads : List (List ℕ)) → AreRead payloads left.bytes → payloads ≡ stored
