use Rattle.textarea_disk.proofs.JournalSteps.{other_files, other_names}
use Rattle.textarea_disk.proofs.journal_step.journals_change_no_other_file.Goals as goal

pub returns-clause-names : goal.returns-clause-names
returns-clause-names c = other_names

pub returns-clause-files : goal.returns-clause-files
returns-clause-files c = other_files
