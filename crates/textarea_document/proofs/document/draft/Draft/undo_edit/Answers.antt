use Rattle.std.proofs.Common.{◌∙◌, ap}
use Rattle.std.proofs.lemmas.Result.{on_err_weaker, on_ok_weaker}
use Rattle.textarea_document.specs.ChangeLog.{changes_of}
use Rattle.textarea_document.specs.RangeHistory.{past_of}
use Rattle.textarea_document.specs.Prelude.{IsSoundInside, document_of, edit_undone}
use Rattle.textarea_document.proofs.Sounds.{after_step, inside_undone}
use Rattle.textarea_document.proofs.document.draft.Draft.undo_edit.Goals as goal

pub undo_edit-requires : goal.undo_edit-requires
undo_edit-requires c = c.self.invariant

pub invariant_of-self : goal.invariant_of-self
invariant_of-self c =
    let document = document_of c.self.inside.text_layout c.self.inside.cursor c.self.inside.anchor c.self.inside.ranges.items c.self.inside.history.log (changes_of c.self.inside.changes) (past_of c.self.inside.range_history) in
    after_step IsSoundInside c.undo_edit.result document (edit_undone document) _ c.undo_edit.ensures.ok c.undo_edit.ensures.err c.self.invariant (inside_undone document c.self.invariant)

pub returns-clause-ok : goal.returns-clause-ok
returns-clause-ok c = on_ok_weaker c.undo_edit.result (λ is. is ∙ ap edit_undone c.self.view_is) c.undo_edit.ensures.ok

pub returns-clause-err : goal.returns-clause-err
returns-clause-err c = on_err_weaker c.undo_edit.result (λ is. is ∙ c.self.view_is) c.undo_edit.ensures.err
