use Rattle.std.proofs.Common.{◌≡◌, ◌∙◌, is_some, sym, ap}
use Rattle.std.proofs.lemmas.Result.{IfOk-weaker, on_err_weaker, on_ok_weaker}
use Rattle.textarea_document.specs.ChangeLog.{changes_of}
use Rattle.textarea_document.specs.RangeHistory.{past_of}
use Rattle.textarea_document.specs.Prelude.{OnOk, IsSound, DocumentState, document_of, after_undo, edit_undone, newest, newest_group, times_at_once}
use Rattle.textarea_document.proofs.Sounds.{after_step, sound_inside}
use Rattle.textarea_document.proofs.UndoGroups.{sound_undo}
use Rattle.textarea_document.proofs.document.Document.undo_edit.Goals as goal
use Rattle.textarea_document.proofs.document.Document.undo_edit.Goals.{After-undo_edit}

pub undo_edit-requires : goal.undo_edit-requires
undo_edit-requires c = sound_inside _ c.self.invariant

-- the parts are those of the document after the group, of one edit
undone : (c : After-undo_edit) → OnOk c.undo_edit.result
    (document_of c.undo_edit.new.text_layout c.undo_edit.new.cursor c.undo_edit.new.anchor c.undo_edit.new.ranges.items c.undo_edit.new.history.log (changes_of c.undo_edit.new.changes) (past_of c.self.inside.range_history) ≡ after_undo
    (document_of c.self.inside.text_layout c.self.inside.cursor c.self.inside.anchor c.self.inside.ranges.items c.self.inside.history.log (changes_of c.self.inside.changes) (past_of c.self.inside.range_history)))
undone c =
    let document = document_of c.self.inside.text_layout c.self.inside.cursor c.self.inside.anchor c.self.inside.ranges.items c.self.inside.history.log (changes_of c.self.inside.changes) (past_of c.self.inside.range_history) in
    let one : newest_group document.log ≡ 1 = ap (λ (d : DocumentState). newest_group d.log) c.self.view_is ∙ c.requires in
    on_ok_weaker c.undo_edit.result (λ is. is ∙ sym (ap (λ count. times_at_once count edit_undone document) one)) c.undo_edit.ensures.ok

pub invariant_of-self : goal.invariant_of-self
invariant_of-self c =
    let document = document_of c.self.inside.text_layout c.self.inside.cursor c.self.inside.anchor c.self.inside.ranges.items c.self.inside.history.log (changes_of c.self.inside.changes) (past_of c.self.inside.range_history) in
    after_step IsSound c.undo_edit.result document (after_undo document) _ (undone (goal.at.invariant_of-self c).After-undo_edit) c.undo_edit.ensures.err c.self.invariant (sound_undo document c.self.invariant)

pub returns-clause-undone : goal.returns-clause-undone
returns-clause-undone c = IfOk-weaker c.undo_edit.result _ _ (λ found is. is ∙ ap (λ (d : DocumentState). is_some (newest d.log)) c.self.view_is) c.undo_edit.ensures.undone

pub returns-clause-ok : goal.returns-clause-ok
returns-clause-ok c = on_ok_weaker c.undo_edit.result (λ is. is ∙ ap after_undo c.self.view_is) (undone (goal.at.returns-clause-ok c).After-undo_edit)

pub returns-clause-err : goal.returns-clause-err
returns-clause-err c = on_err_weaker c.undo_edit.result (λ is. is ∙ c.self.view_is) c.undo_edit.ensures.err

pub returns-clause-nothing : goal.returns-clause-nothing
returns-clause-nothing c = λ none. c.undo_edit.ensures.nothing (ap (λ (d : DocumentState). newest d.log) c.self.view_is ∙ none)
