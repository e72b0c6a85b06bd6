use Rattle.std.proofs.Common.{◌≡◌, is_some, subst}
use Rattle.std.specs.Result.{IfOk}
use Rattle.textarea_history.specs.Log.{next}
use Rattle.textarea_document.specs.Outcomes.{after_redo}
use Rattle.tui_textarea.specs.State.{State}
use Rattle.tui_textarea.proofs.Lifted.{document_lifted}
use Rattle.tui_textarea.proofs.textarea.TextArea.redo_unguarded.Goals as goal

pub returns-clause-redone : goal.returns-clause-redone
returns-clause-redone c = subst (λ (s : State). IfOk c.redo.result (λ found. found ≡ is_some (next s.document.log))) c.self.view_is c.redo.ensures.redone

pub returns-clause-ok : goal.returns-clause-ok
returns-clause-ok c = document_lifted c.redo.result (λ (s : State). after_redo s.document) c.self.view_is c.redo.new.self c.redo.ensures.ok
