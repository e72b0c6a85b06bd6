use Rattle.textarea_lines.proofs.ComingLines.{changed_more}
use Rattle.textarea_lines.proofs.laws.changes_of_numbered.Goals as goal

pub returns-clause-more : goal.returns-clause-more
returns-clause-more c = changed_more
