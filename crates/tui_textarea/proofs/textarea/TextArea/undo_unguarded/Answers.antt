use Rattle.std.proofs.Common.{◌≡◌, is_some, subst}
use Rattle.std.specs.Result.{IfOk}
use Rattle.textarea_history.specs.Log.{newest}
use Rattle.textarea_document.specs.Outcomes.{after_undo}
use Rattle.tui_textarea.specs.State.{State}
use Rattle.tui_textarea.proofs.Lifted.{document_lifted}
use Rattle.tui_textarea.proofs.textarea.TextArea.undo_unguarded.Goals as goal

pub returns-clause-undone : goal.returns-clause-undone
returns-clause-undone c = subst (λ (s : State). IfOk c.undo.result (λ found. found ≡ is_some (newest s.document.log))) c.self.view_is c.undo.ensures.undone

pub returns-clause-ok : goal.returns-clause-ok
returns-clause-ok c = document_lifted c.undo.result (λ (s : State). after_undo s.document) c.self.view_is c.undo.new.self c.undo.ensures.ok
