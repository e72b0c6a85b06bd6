use Rattle.std.proofs.Common.{◌≡◌, ◌∙◌, ap, subst, sym}
use Rattle.std.specs.List.{each_same}
use Rattle.textarea_document.specs.ChangeLog.{changes_of}
use Rattle.textarea_document.specs.RangeHistory.{past_of}
use Rattle.textarea_document.specs.Prelude.{DocumentState, IsSound, document_of, lines_numbered}
use Rattle.textarea_document.proofs.Sounds.{numbered_is, resound}
use Rattle.textarea_document.proofs.document.Document.with_lines_numbered.Goals as goal
use Rattle.textarea_document.proofs.document.Document.with_lines_numbered.Goals.{In_ok-range_history}

abbrev original : In_ok-range_history → DocumentState
original c =
    let inside = c.self.inside in
    document_of inside.text_layout inside.cursor inside.anchor inside.ranges.items inside.history.log (changes_of inside.changes) (past_of inside.range_history)

-- the copied parts make the document with its lines numbered
copied : (c : In_ok-range_history) →
    document_of c.in_ok-text_layout.text_layout c.self.inside.cursor c.self.inside.anchor c.in_ok-ranges.ranges.items c.in_ok-history.history.log (changes_of c.in_ok-changes.changes) (past_of c.in_ok-range_history.range_history)
    ≡ lines_numbered (original c)
copied c =
    let inside = c.self.inside in
    numbered_is inside.text_layout c.in_ok-text_layout.text_layout inside.cursor inside.anchor inside.ranges.items c.in_ok-ranges.ranges.items inside.history.log c.in_ok-history.history.log
    (changes_of inside.changes) (changes_of c.in_ok-changes.changes) (past_of inside.range_history) (past_of c.in_ok-range_history.range_history)
    c.in_ok-text_layout.ensures (each_same inside.ranges.items c.in_ok-ranges.ranges.items c.in_ok-ranges.ensures.cases.0) c.in_ok-history.ensures.cases c.in_ok-changes.ensures c.in_ok-range_history.ensures

pub invariant_of-result : goal.invariant_of-result
invariant_of-result c =
    let at = (goal.at.invariant_of-result c).In_ok-range_history in
    subst IsSound (sym (copied at)) (resound (original at) (lines_numbered (original at)).layout c.self.invariant)

pub returns : goal.returns
returns c = copied (goal.at.returns c).In_ok-range_history ∙ ap lines_numbered c.self.view_is
