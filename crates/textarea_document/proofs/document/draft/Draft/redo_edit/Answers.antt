use Rattle.std.proofs.Common.{◌∙◌, ap}
use Rattle.std.proofs.lemmas.Result.{on_err_weaker, on_ok_weaker}
use Rattle.textarea_document.specs.ChangeLog.{changes_of}
use Rattle.textarea_document.specs.RangeHistory.{past_of}
use Rattle.textarea_document.specs.Prelude.{IsSoundInside, document_of, edit_redone}
use Rattle.textarea_document.proofs.Sounds.{after_step, inside_redone}
use Rattle.textarea_document.proofs.document.draft.Draft.redo_edit.Goals as goal

pub redo_edit-requires : goal.redo_edit-requires
redo_edit-requires c = c.self.invariant

pub invariant_of-self : goal.invariant_of-self
invariant_of-self c =
    let document = document_of c.self.inside.text_layout c.self.inside.cursor c.self.inside.anchor c.self.inside.ranges.items c.self.inside.history.log (changes_of c.self.inside.changes) (past_of c.self.inside.range_history) in
    after_step IsSoundInside c.redo_edit.result document (edit_redone document) _ c.redo_edit.ensures.ok c.redo_edit.ensures.err c.self.invariant (inside_redone document c.self.invariant)

pub returns-clause-ok : goal.returns-clause-ok
returns-clause-ok c = on_ok_weaker c.redo_edit.result (λ is. is ∙ ap edit_redone c.self.view_is) c.redo_edit.ensures.ok

pub returns-clause-err : goal.returns-clause-err
returns-clause-err c = on_err_weaker c.redo_edit.result (λ is. is ∙ c.self.view_is) c.redo_edit.ensures.err
