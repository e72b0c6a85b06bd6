-- A step of a journal on the system's disk, as far as the toolchain's files say what they do.
use Rattle.std.specs.Prelude.{◌≡◌, Bool}
use Rattle.textarea_disk.specs.declared.journal_step.JournalStep.{JournalStep}
use Rattle.textarea_files.specs.declared.disk.journal_file.JournalMaker.{JournalMaker}

-- the name of the file and the bytes that are added stay those of the write
pub record IsStepOfJournal (old : JournalMaker) (step : JournalStep) (made : Bool) (new : JournalMaker) : Type 0 where
  pub same_name : new.name ≡ old.name
  pub same_bytes : new.bytes ≡ old.bytes
