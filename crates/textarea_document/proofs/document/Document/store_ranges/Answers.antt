use Rattle.std.proofs.Common.{sym, subst}
use Rattle.textarea_document.specs.RangeHistory.{past_of}
use Rattle.textarea_document.specs.Prelude.{ArePastRanges, texts_before, IfSome, lines, IsPlace, AreValid, unless_empty, DocumentState}
use Rattle.textarea_document.proofs.Ranges.{apart_slice, anchor_place}
use Rattle.textarea_document.proofs.Sounds.{none_past}
use Rattle.textarea_document.proofs.document.Document.store_ranges.Goals as goal

pub invariant_of-self : goal.invariant_of-self
invariant_of-self c =
    let text = c.self.inside.text_layout.text in
    let log = c.self.inside.history.log in
    let supplied = c.args.ranges.items in
    let valid : AreValid (lines text) supplied = subst (λ (s : DocumentState). AreValid (lines s.text) supplied) (sym c.self.view_is) c.requires.valid in
    let first : AreValid (lines text) c.as_slice-stored.result.now = subst (AreValid (lines text)) (sym c.as_slice-stored.ensures.value) valid in
    let old = c.self.invariant in
    record {
      cursor = c.move_out-cursor.ensures.place (lines text) first old.cursor;
      anchor = subst (λ o. IfSome o (IsPlace text)) (sym c.unless_empty-self-inside.ensures)
          (subst (λ o. IfSome (unless_empty o c.move_out-cursor.result) (IsPlace text)) (sym c.anchor_out-anchor.ensures)
          (anchor_place text c.as_slice-stored.result.now c.self.inside.anchor c.move_out-cursor.result (subst (AreValid (lines text)) (sym c.as_slice-stored.ensures.value) valid) old.anchor));
      ranges = valid;
      in_order = c.requires.in_order;
      undo = old.undo;
      redo = old.redo;
      bounded = old.bounded;
      marks = old.marks;
      whole = old.whole;
      past = subst (ArePastRanges (texts_before text log.done log.undone)) (sym c.forget.ensures) (none_past text log.done log.undone (past_of c.self.inside.range_history).on);
    }

pub move_out-cursor-requires : goal.move_out-cursor-requires
move_out-cursor-requires c = apart_slice (lines c.args.self.now.text) _ _ c.requires.valid c.requires.in_order c.as_slice-stored.ensures.value

pub anchor_out-anchor-requires : goal.anchor_out-anchor-requires
anchor_out-anchor-requires c = apart_slice (lines c.args.self.now.text) _ _ c.requires.valid c.requires.in_order c.as_slice-stored.ensures.value
