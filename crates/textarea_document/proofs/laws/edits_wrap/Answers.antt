use Rattle.textarea_document.proofs.AtOnce.{all_wrap, redo_wraps, undo_wraps}
use Rattle.textarea_document.proofs.DocumentWraps.{edit_wraps, step_wraps}
use Rattle.textarea_document.proofs.laws.edits_wrap.Goals as goal

pub returns-clause-edited : goal.returns-clause-edited
returns-clause-edited c = edit_wraps c.splices_wrap.ensures

pub returns-clause-stepped : goal.returns-clause-stepped
returns-clause-stepped c = step_wraps c.splices_wrap.ensures

pub returns-clause-undone : goal.returns-clause-undone
returns-clause-undone c = undo_wraps c.one_list_of_rows.ensures c.splices_wrap.ensures c.splices_wrap_at_once.ensures

pub returns-clause-redone : goal.returns-clause-redone
returns-clause-redone c = redo_wraps c.one_list_of_rows.ensures c.splices_wrap.ensures c.splices_wrap_at_once.ensures

pub returns-clause-replaced : goal.returns-clause-replaced
returns-clause-replaced c = all_wrap c.one_list_of_rows.ensures c.splices_wrap_at_once.ensures
