use Rattle.std.proofs.Common.{◌∙◌, List, Option, sym, ap, subst}
use Rattle.textarea_document.specs.ChangeLog.{changes_of}
use Rattle.textarea_document.specs.RangeHistory.{past_of}
use Rattle.textarea_document.specs.Prelude.{AreInOrder, AreValid, AtomicRange, Fits, Splice, document_of, lines, moved_ranges, ranges_before_next, ranges_or, redone_log, after_redo_by}
use Rattle.textarea_document.proofs.Sounds.{changed_is, next_fits, next_ranges_valid}
use Rattle.textarea_document.proofs.document.undo.redo_edit.Goals as goal

pub make_change_from-requires-clause-fits : goal.make_change_from-requires-clause-fits
make_change_from-requires-clause-fits c =
    let document = document_of c.args.text_layout.now c.args.cursor.now c.args.anchor.now c.args.ranges.now.items c.args.history.now.log (changes_of c.args.changes.now) (past_of c.args.range_history.now) in
    subst (Fits c.args.text_layout.now.text) (sym c.change.ensures) (next_fits document c.in-Some.edit.now.splice c.requires.log c.in-Some.ensures.edit)

pub make_change_from-requires-clause-valid : goal.make_change_from-requires-clause-valid
make_change_from-requires-clause-valid c =
    let document = document_of c.args.text_layout.now c.args.cursor.now c.args.anchor.now c.args.ranges.now.items c.args.history.now.log (changes_of c.args.changes.now) (past_of c.args.range_history.now) in
    subst (λ (past : Option (List AtomicRange)). AreValid (lines document.text) (ranges_or past document.ranges)) (sym c.in_ok-past.ensures)
    (next_ranges_valid document c.in-Some.edit.now.splice c.requires c.in-Some.ensures.edit).valid

pub make_change_from-requires-clause-in_order : goal.make_change_from-requires-clause-in_order
make_change_from-requires-clause-in_order c =
    let document = document_of c.args.text_layout.now c.args.cursor.now c.args.anchor.now c.args.ranges.now.items c.args.history.now.log (changes_of c.args.changes.now) (past_of c.args.range_history.now) in
    subst (λ (past : Option (List AtomicRange)). AreInOrder (ranges_or past document.ranges)) (sym c.in_ok-past.ensures)
    (next_ranges_valid document c.in-Some.edit.now.splice c.requires c.in-Some.ensures.edit).in_order

pub returns-in_default-clause-ok : goal.returns-in_default-clause-ok
returns-in_default-clause-ok c =
    let document = document_of c.args.text_layout.now c.args.cursor.now c.args.anchor.now c.args.ranges.now.items c.args.history.now.log (changes_of c.args.changes.now) (past_of c.args.range_history.now) in
    sym (ap (λ (found : Option Splice). after_redo_by found document) c.in_default.ensures.edit)

-- the parts after the step are those of the document after it
pub returns-clause-ok : goal.returns-clause-ok
returns-clause-ok c =
    let text_layout = c.args.text_layout.now in
    let ranges = c.args.ranges.now.items in
    let log = c.args.history.now.log in
    let changes = changes_of c.args.changes.now in
    let past = past_of c.args.range_history.now in
    let document = document_of text_layout c.args.cursor.now c.args.anchor.now ranges log changes past in
    let splice = c.in-Some.edit.now.splice in
    let is = c.in_ok-after.ensures in
    changed_is text_layout c.make_change_from.new.text_layout c.args.cursor.now c.in_ok-after.after c.args.anchor.now (ranges_or (ranges_before_next past log) ranges) c.make_change_from.new.ranges.items log
    c.step_forward.new.self.log (redone_log log splice) changes (changes_of c.make_change_from.new.changes) past _ splice c.change.ensures is.text_layout is.cursor
    (is.ranges ∙ ap (λ (before : Option (List AtomicRange)). moved_ranges (ranges_or before ranges) c.change.result) c.in_ok-past.ensures)
    (c.step_forward.ensures splice c.in-Some.ensures.edit) is.changes
    ∙ sym (ap (λ (found : Option Splice). after_redo_by found document) c.in-Some.ensures.edit)
