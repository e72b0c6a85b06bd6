use Rattle.textarea_disk.proofs.JournalSteps.{removed}
use Rattle.textarea_disk.proofs.journal_step.journals_are_removed.Goals as goal

pub returns : goal.returns
returns c = removed
