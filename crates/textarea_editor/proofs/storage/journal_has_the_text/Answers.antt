use Rattle.textarea_editor.proofs.Storages.{written}
use Rattle.textarea_editor.proofs.storage.journal_has_the_text.Goals as goal

pub returns : goal.returns
returns c = written
