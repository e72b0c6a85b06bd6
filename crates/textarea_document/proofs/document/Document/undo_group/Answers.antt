use Rattle.std.proofs.Common.{◌≡◌, ◌∙◌, false, length, sym, ap, subst, arith}
use Rattle.textarea_document.specs.Prelude.{DocumentState, IsChangedFrom, TextAndLayout, edit_undone, is_grouped, text_and_layout, times}
use Rattle.textarea_document.proofs.AtOnce.{undone_changed}
use Rattle.textarea_document.proofs.Changing.{laid_undone, put_undone}
use Rattle.textarea_document.proofs.UndoGroups.{newest_of_several, undo_whole}
use Rattle.textarea_document.proofs.document.Document.undo_group.Goals as goal

pub put-requires-clause-whole : goal.put-requires-clause-whole
put-requires-clause-whole c =
    let old = c.args.self.now in
    let count = c.args.count in
    let is = put_undone old c.undo_edits.new.self count (c.in_ok-undo_edits.ensures ∙ ap (times count edit_undone) c.in_ok-draft.ensures) c.requires.count c.requires.several in
    subst (λ (d : DocumentState). is_grouped d.log.marks (length d.log.done) ≡ false) (sym is) (undo_whole old c.is_sound.ensures)

pub put-requires-clause-changed : goal.put-requires-clause-changed
put-requires-clause-changed c =
    let old = c.args.self.now in
    let count = c.args.count in
    let laid = laid_undone old c.undo_edits.new.self count (c.in_ok-undo_edits.ensures ∙ ap (times count edit_undone) c.in_ok-draft.ensures) in
    subst (λ (t : TextAndLayout). IsChangedFrom (text_and_layout old) t) (sym laid) (undone_changed count old c.is_sound.ensures)

pub returns-clause-undone : goal.returns-clause-undone
returns-clause-undone c = sym (newest_of_several c.args.self.now (omega (arith, c.requires.several, c.requires.count)))

pub returns-clause-ok : goal.returns-clause-ok
returns-clause-ok c =
    let count = c.args.count in
    c.in_ok-put.ensures.ok
    ∙ put_undone c.args.self.now c.undo_edits.new.self count (c.in_ok-undo_edits.ensures ∙ ap (times count edit_undone) c.in_ok-draft.ensures) c.requires.count c.requires.several
