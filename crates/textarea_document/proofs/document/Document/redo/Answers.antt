use Rattle.std.proofs.Common.{◌≡◌, ◌∙◌, ap, arith, is_some, subst, sym}
use Rattle.std.proofs.lemmas.Bool.{false≢true}
use Rattle.textarea_document.specs.ChangeLog.{changes_of}
use Rattle.textarea_document.specs.RangeHistory.{past_of}
use Rattle.textarea_document.specs.Prelude.{DocumentState, document_of, next, next_group}
use Rattle.textarea_document.proofs.UndoGroups.{next_of_several}
use Rattle.textarea_document.proofs.document.Document.redo.Goals as goal

pub redo_edit-requires : goal.redo_edit-requires
redo_edit-requires c =
    let one : next_group c.self.inside.history.log ≡ 1 = omega (arith, c.next_group-count.ensures) in
    subst (λ (d : DocumentState). next_group d.log ≡ 1) c.self.view_is one

pub returns-then-count-gt1-clause-nothing : goal.returns-then-count-gt1-clause-nothing
returns-then-count-gt1-clause-nothing c =
    let document = document_of c.self.inside.text_layout c.self.inside.cursor c.self.inside.anchor c.self.inside.ranges.items c.self.inside.history.log (changes_of c.self.inside.changes) (past_of c.self.inside.range_history) in
    let some = next_of_several document c.self.invariant (omega (arith, c.next_group-count.ensures)) in
    λ none. absurd (false≢true (sym (ap is_some (ap (λ (d : DocumentState). next d.log) c.self.view_is ∙ none)) ∙ some))
