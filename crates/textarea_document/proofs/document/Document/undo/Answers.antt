use Rattle.std.proofs.Common.{◌≡◌, arith, subst}
use Rattle.textarea_document.specs.Prelude.{DocumentState, newest_group}
use Rattle.textarea_document.proofs.document.Document.undo.Goals as goal

pub undo_edit-requires : goal.undo_edit-requires
undo_edit-requires c =
    let one : newest_group c.self.inside.history.log ≡ 1 = omega (arith, c.newest_group-count.ensures) in
    subst (λ (d : DocumentState). newest_group d.log ≡ 1) c.self.view_is one
