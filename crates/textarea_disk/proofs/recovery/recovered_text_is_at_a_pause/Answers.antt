use Rattle.textarea_disk.proofs.Recoveries.{at_a_pause, at_the_last}
use Rattle.textarea_disk.proofs.recovery.recovered_text_is_at_a_pause.Goals as goal

pub returns-clause-at_a_pause : goal.returns-clause-at_a_pause
returns-clause-at_a_pause c = at_a_pause

pub returns-clause-at_the_last : goal.returns-clause-at_the_last
returns-clause-at_the_last c = at_the_last
