use Rattle.textarea_disk.proofs.JournalSteps.{first_written, later_written}
use Rattle.textarea_disk.proofs.journal_step.journals_are_lasting.Goals as goal

pub returns-clause-first : goal.returns-clause-first
returns-clause-first c = first_written

pub returns-clause-later : goal.returns-clause-later
returns-clause-later c = later_written
