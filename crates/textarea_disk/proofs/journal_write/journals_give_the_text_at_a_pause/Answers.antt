use Rattle.textarea_disk.proofs.JournalWrites.{read_at_a_pause, read_at_the_last}
use Rattle.textarea_disk.proofs.journal_write.journals_give_the_text_at_a_pause.Goals as goal

pub returns-clause-at_a_pause : goal.returns-clause-at_a_pause
returns-clause-at_a_pause c = read_at_a_pause

pub returns-clause-at_the_last : goal.returns-clause-at_the_last
returns-clause-at_the_last c = read_at_the_last
