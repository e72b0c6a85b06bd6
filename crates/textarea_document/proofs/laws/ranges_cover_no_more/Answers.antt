use Rattle.textarea_document.proofs.Covering.{edit_covers, redo_covers, undo_covers}
use Rattle.textarea_document.proofs.laws.ranges_cover_no_more.Goals as goal

pub returns-clause-edited : goal.returns-clause-edited
returns-clause-edited c = edit_covers

pub returns-clause-undone : goal.returns-clause-undone
returns-clause-undone c = undo_covers

pub returns-clause-redone : goal.returns-clause-redone
returns-clause-redone c = redo_covers
