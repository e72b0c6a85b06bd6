use Rattle.std.proofs.Common.{◌≡◌, ◌∙◌, List, Option, None, sym, ap, subst}
use Rattle.textarea_document.specs.ChangeLog.{changes_of}
use Rattle.textarea_document.specs.RangeHistory.{past_of}
use Rattle.textarea_document.specs.Prelude.{AtomicRange, DocumentState, Fits, Splice, inverse, document_of, moved_ranges, ranges_before_newest, ranges_or, undone_log, after_undo_by}
use Rattle.textarea_document.proofs.Sounds.{changed_is, newest_fits}
use Rattle.textarea_document.proofs.document.undo.undo_edit.Goals as goal

pub make_change-requires-clause-fits : goal.make_change-requires-clause-fits
make_change-requires-clause-fits c =
    let document = document_of c.args.text_layout.now c.args.cursor.now c.args.anchor.now c.args.ranges.now.items c.args.history.now.log (changes_of c.args.changes.now) (past_of c.args.range_history.now) in
    subst (Fits c.args.text_layout.now.text) (sym c.inverse.ensures) (newest_fits document c.in-Some.edit.now.splice c.requires.log c.in-Some.ensures.edit)

pub make_change-requires-clause-valid : goal.make_change-requires-clause-valid
make_change-requires-clause-valid c = c.requires.ranges

pub make_change-requires-clause-in_order : goal.make_change-requires-clause-in_order
make_change-requires-clause-in_order c = c.requires.in_order

pub returns-in_default-clause-ok : goal.returns-in_default-clause-ok
returns-in_default-clause-ok c =
    let document = document_of c.args.text_layout.now c.args.cursor.now c.args.anchor.now c.args.ranges.now.items c.args.history.now.log (changes_of c.args.changes.now) (past_of c.args.range_history.now) in
    sym (ap (λ (found : Option Splice). after_undo_by found document) c.in_default.ensures.edit)

-- the parts after the step are those of the document after it
pub returns-clause-ok : goal.returns-clause-ok
returns-clause-ok c =
    let text_layout = c.args.text_layout.now in
    let ranges = c.args.ranges.now.items in
    let log = c.args.history.now.log in
    let changes = changes_of c.args.changes.now in
    let past = past_of c.args.range_history.now in
    let document = document_of text_layout c.args.cursor.now c.args.anchor.now ranges log changes past in
    let splice = c.in-Some.edit.now.splice in
    let is = c.in_ok-after.ensures in
    let moved = changed_is text_layout c.make_change.new.text_layout c.args.cursor.now c.in_ok-after.after c.args.anchor.now ranges c.make_change.new.ranges.items log
    c.step_back.new.self.log (undone_log log splice) changes (changes_of c.make_change.new.changes) past _ (inverse splice) c.inverse.ensures is.text_layout is.cursor is.ranges
    (c.step_back.ensures splice c.in-Some.ensures.edit) is.changes in
    let put : c.put_past.new.ranges.items ≡ ranges_or (ranges_before_newest past log) (moved_ranges ranges (inverse splice)) =
    c.put_past.ensures
    ∙ ap (λ (before : Option (List AtomicRange)). ranges_or before c.make_change.new.ranges.items) c.in_ok-past.ensures
    ∙ ap (ranges_or (ranges_before_newest past log)) (ap (λ (d : DocumentState). d.ranges) moved) in
    ap (λ (stored : List AtomicRange). document_of c.make_change.new.text_layout c.in_ok-after.after None stored c.step_back.new.self.log (changes_of c.make_change.new.changes) past) put
    ∙ ap (λ (d : DocumentState). record d { ranges = ranges_or (ranges_before_newest past log) (moved_ranges ranges (inverse splice)) }) moved
    ∙ sym (ap (λ (found : Option Splice). after_undo_by found document) c.in-Some.ensures.edit)
