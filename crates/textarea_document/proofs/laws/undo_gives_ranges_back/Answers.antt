use Rattle.textarea_document.proofs.GivenBack.{edit_given_back, group_given_back}
use Rattle.textarea_document.proofs.laws.undo_gives_ranges_back.Goals as goal

pub returns-clause-group : goal.returns-clause-group
returns-clause-group c = group_given_back

pub returns-clause-edited : goal.returns-clause-edited
returns-clause-edited c = edit_given_back
