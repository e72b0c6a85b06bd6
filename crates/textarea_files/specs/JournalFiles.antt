-- The journal of a file that is open.
use Rattle.std.specs.Prelude.{◌≡◌, Bool, true, None, is_some}
use Rattle.textarea_disk.specs.declared.journal_write.JournalWrite.{JournalWrite}
use Rattle.textarea_files.specs.declared.disk.journal_file.FoundJournal.{FoundJournal}
use Rattle.textarea_files.specs.declared.disk.journal_file.FoundJournal.TheVariants as journal
use Rattle.textarea_files.specs.declared.disk.journal_file.JournalFile.{JournalFile}

-- none is open
abbrev pub none_open : JournalFile
none_open = record { «open» = None }

abbrev pub HasOpen : JournalFile → Type 0
HasOpen file = is_some file.«open» ≡ true

-- a journal that is found is open then; else what was open stays so
abbrev pub IsJournalFound : JournalFile → FoundJournal → JournalFile → Type 0
IsJournalFound old (journal.Bytes bytes) new = HasOpen new
IsJournalFound old other new = new ≡ old

-- what a write does to a journal that is open or not: the toolchain's files don't say
abbrev pub IsJournalWrite : JournalFile → JournalWrite → Bool → JournalFile → Type 0
IsJournalWrite old write made new = Unit {0}
