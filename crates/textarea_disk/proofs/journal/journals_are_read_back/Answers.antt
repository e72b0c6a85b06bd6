use Rattle.textarea_disk.proofs.Journals.{stored_read, whole_read}
use Rattle.textarea_disk.proofs.journal.journals_are_read_back.Goals as goal

pub returns-clause-torn : goal.returns-clause-torn
returns-clause-torn c = stored_read

pub returns-clause-whole : goal.returns-clause-whole
returns-clause-whole c = whole_read
