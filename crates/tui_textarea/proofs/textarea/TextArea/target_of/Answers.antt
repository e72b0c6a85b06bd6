use Rattle.std.proofs.Common.{subst, refl}
use Rattle.textarea_document.specs.Target.{IsDocumentTarget}
use Rattle.tui_textarea.specs.State.{State}
use Rattle.tui_textarea.proofs.OneTarget.{document_target}
use Rattle.tui_textarea.proofs.textarea.TextArea.target_of.Goals as goal

pub returns-in-InViewport-clause-target : goal.returns-in-InViewport-clause-target
returns-in-InViewport-clause-target c =
    rw (c.in-InViewport.is, ← c.self.view_is) (c.nearest_visible_place.result, refl, c.nearest_visible_place.ensures.inside)

pub returns-in_default-clause-target : goal.returns-in_default-clause-target
returns-in_default-clause-target c =
    document_target c.args.self.now c.args.cursor_move c.target.result c.in_default.not-InViewport
    (subst (λ (s : State). IsDocumentTarget s.document c.args.cursor_move c.target.result) c.self.view_is c.target.ensures.value)
