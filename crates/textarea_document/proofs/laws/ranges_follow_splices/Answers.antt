use Rattle.textarea_document.proofs.RangesOverSplices.{all_stay_or_are_dropped, all_stem, ranges_follow_edit, ranges_follow_redo, ranges_follow_step, ranges_follow_undo}
use Rattle.textarea_document.proofs.laws.ranges_follow_splices.Goals as goal

pub returns-clause-edited : goal.returns-clause-edited
returns-clause-edited c = ranges_follow_edit

pub returns-clause-stepped : goal.returns-clause-stepped
returns-clause-stepped c = ranges_follow_step

pub returns-clause-undone : goal.returns-clause-undone
returns-clause-undone c = ranges_follow_undo

pub returns-clause-redone : goal.returns-clause-redone
returns-clause-redone c = ranges_follow_redo

pub returns-clause-stem : goal.returns-clause-stem
returns-clause-stem c = all_stem

pub returns-clause-dropped : goal.returns-clause-dropped
returns-clause-dropped c = all_stay_or_are_dropped
