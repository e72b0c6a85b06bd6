use Rattle.std.proofs.Common.{◌≡◌, ◌∙◌, ap, subst, sym}
use Rattle.std.specs.List.{each_same}
use Rattle.textarea_document.specs.ChangeLog.{changes_of}
use Rattle.textarea_document.specs.RangeHistory.{past_of}
use Rattle.textarea_document.specs.Prelude.{DocumentState, IsSoundInside, changes_taken, document_of, lines_numbered, numbered}
use Rattle.textarea_document.proofs.Sounds.{copy_is, resound, sound_changes, sound_inside}
use Rattle.textarea_document.proofs.document.Document.draft.Goals as goal
use Rattle.textarea_document.proofs.document.Document.draft.Goals.{In_ok-range_history}

abbrev original : In_ok-range_history → DocumentState
original c =
    let inside = c.self.inside in
    document_of inside.text_layout inside.cursor inside.anchor inside.ranges.items inside.history.log (changes_of inside.changes) (past_of inside.range_history)

-- the copied parts make the document with its lines numbered, without its changes
copied : (c : In_ok-range_history) →
    document_of c.in_ok-text_layout.text_layout c.self.inside.cursor c.self.inside.anchor c.in_ok-ranges.ranges.items c.in_ok-history.history.log (changes_of c.emptied-changes.result) (past_of c.in_ok-range_history.range_history)
    ≡ changes_taken (lines_numbered (original c))
copied c =
    let inside = c.self.inside in
    copy_is (numbered inside.text_layout) c.in_ok-text_layout.text_layout inside.cursor inside.anchor inside.ranges.items c.in_ok-ranges.ranges.items inside.history.log c.in_ok-history.history.log
    (changes_of inside.changes) (changes_of c.emptied-changes.result) (past_of inside.range_history) (past_of c.in_ok-range_history.range_history)
    c.in_ok-text_layout.ensures (each_same inside.ranges.items c.in_ok-ranges.ranges.items c.in_ok-ranges.ensures.cases.0) c.in_ok-history.ensures.cases c.emptied-changes.ensures c.in_ok-range_history.ensures

pub invariant_of-result : goal.invariant_of-result
invariant_of-result c =
    let at = (goal.at.invariant_of-result c).In_ok-range_history in
    let copy = lines_numbered (original at) in
    let without_changes = sound_changes copy (changes_taken copy).changes (resound (original at) copy.layout c.self.invariant) in
    subst IsSoundInside (sym (copied at)) (sound_inside (changes_taken copy) without_changes)

pub returns : goal.returns
returns c = copied (goal.at.returns c).In_ok-range_history ∙ ap (λ (d : DocumentState). changes_taken (lines_numbered d)) c.self.view_is
