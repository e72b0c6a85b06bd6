use Rattle.std.proofs.Common.{◌≡◌, ◌∙◌, false, length, sym, ap, subst, arith}
use Rattle.textarea_document.specs.Prelude.{DocumentState, IsChangedFrom, TextAndLayout, edit_redone, is_grouped, text_and_layout, times}
use Rattle.textarea_document.proofs.AtOnce.{redone_changed}
use Rattle.textarea_document.proofs.Changing.{laid_redone, put_redone}
use Rattle.textarea_document.proofs.UndoGroups.{next_of_several, redo_whole}
use Rattle.textarea_document.proofs.document.Document.redo_group.Goals as goal

pub put-requires-clause-whole : goal.put-requires-clause-whole
put-requires-clause-whole c =
    let old = c.args.self.now in
    let count = c.args.count in
    let is = put_redone old c.redo_edits.new.self count (c.in_ok-redo_edits.ensures ∙ ap (times count edit_redone) c.in_ok-draft.ensures) c.requires.count c.requires.several in
    subst (λ (d : DocumentState). is_grouped d.log.marks (length d.log.done) ≡ false) (sym is) (redo_whole old c.is_sound.ensures)

pub put-requires-clause-changed : goal.put-requires-clause-changed
put-requires-clause-changed c =
    let old = c.args.self.now in
    let count = c.args.count in
    let laid = laid_redone old c.redo_edits.new.self count (c.in_ok-redo_edits.ensures ∙ ap (times count edit_redone) c.in_ok-draft.ensures) in
    subst (λ (t : TextAndLayout). IsChangedFrom (text_and_layout old) t) (sym laid) (redone_changed count old c.is_sound.ensures)

pub returns-clause-redone : goal.returns-clause-redone
returns-clause-redone c = sym (next_of_several c.args.self.now c.is_sound.ensures (omega (arith, c.requires.several, c.requires.count)))

pub returns-clause-ok : goal.returns-clause-ok
returns-clause-ok c =
    let count = c.args.count in
    c.in_ok-put.ensures.ok
    ∙ put_redone c.args.self.now c.redo_edits.new.self count (c.in_ok-redo_edits.ensures ∙ ap (times count edit_redone) c.in_ok-draft.ensures) c.requires.count c.requires.several
