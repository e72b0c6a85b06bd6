use Rattle.std.proofs.Common.{◌≡◌, ◌∙◌, is_some, sym, ap}
use Rattle.std.proofs.lemmas.Result.{IfOk-weaker, on_err_weaker, on_ok_weaker}
use Rattle.textarea_document.specs.ChangeLog.{changes_of}
use Rattle.textarea_document.specs.RangeHistory.{past_of}
use Rattle.textarea_document.specs.Prelude.{OnOk, IsSound, DocumentState, document_of, after_redo, edit_redone, next, next_group, times_at_once}
use Rattle.textarea_document.proofs.Sounds.{after_step, sound_inside}
use Rattle.textarea_document.proofs.UndoGroups.{sound_redo}
use Rattle.textarea_document.proofs.document.Document.redo_edit.Goals as goal
use Rattle.textarea_document.proofs.document.Document.redo_edit.Goals.{After-redo_edit}

pub redo_edit-requires : goal.redo_edit-requires
redo_edit-requires c = sound_inside _ c.self.invariant

-- the parts are those of the document after the group, of one edit
redone : (c : After-redo_edit) → OnOk c.redo_edit.result
    (document_of c.redo_edit.new.text_layout c.redo_edit.new.cursor c.redo_edit.new.anchor c.redo_edit.new.ranges.items c.redo_edit.new.history.log (changes_of c.redo_edit.new.changes) (past_of c.self.inside.range_history) ≡ after_redo
    (document_of c.self.inside.text_layout c.self.inside.cursor c.self.inside.anchor c.self.inside.ranges.items c.self.inside.history.log (changes_of c.self.inside.changes) (past_of c.self.inside.range_history)))
redone c =
    let document = document_of c.self.inside.text_layout c.self.inside.cursor c.self.inside.anchor c.self.inside.ranges.items c.self.inside.history.log (changes_of c.self.inside.changes) (past_of c.self.inside.range_history) in
    let one : next_group document.log ≡ 1 = ap (λ (d : DocumentState). next_group d.log) c.self.view_is ∙ c.requires in
    on_ok_weaker c.redo_edit.result (λ is. is ∙ sym (ap (λ count. times_at_once count edit_redone document) one)) c.redo_edit.ensures.ok

pub invariant_of-self : goal.invariant_of-self
invariant_of-self c =
    let document = document_of c.self.inside.text_layout c.self.inside.cursor c.self.inside.anchor c.self.inside.ranges.items c.self.inside.history.log (changes_of c.self.inside.changes) (past_of c.self.inside.range_history) in
    after_step IsSound c.redo_edit.result document (after_redo document) _ (redone (goal.at.invariant_of-self c).After-redo_edit) c.redo_edit.ensures.err c.self.invariant (sound_redo document c.self.invariant)

pub returns-clause-redone : goal.returns-clause-redone
returns-clause-redone c = IfOk-weaker c.redo_edit.result _ _ (λ found is. is ∙ ap (λ (d : DocumentState). is_some (next d.log)) c.self.view_is) c.redo_edit.ensures.redone

pub returns-clause-ok : goal.returns-clause-ok
returns-clause-ok c = on_ok_weaker c.redo_edit.result (λ is. is ∙ ap after_redo c.self.view_is) (redone (goal.at.returns-clause-ok c).After-redo_edit)

pub returns-clause-err : goal.returns-clause-err
returns-clause-err c = on_err_weaker c.redo_edit.result (λ is. is ∙ c.self.view_is) c.redo_edit.ensures.err

pub returns-clause-nothing : goal.returns-clause-nothing
returns-clause-nothing c = λ none. c.redo_edit.ensures.nothing (ap (λ (d : DocumentState). next d.log) c.self.view_is ∙ none)
