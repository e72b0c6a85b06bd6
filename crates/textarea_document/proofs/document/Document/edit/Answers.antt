use Rattle.std.proofs.Common.{◌≡◌, ◌∙◌, ℕ, List, Option, None, length, ap, sym, subst}
use Rattle.textarea_document.specs.ChangeLog.{changes_of}
use Rattle.textarea_document.specs.RangeHistory.{past_of, ranges_of}
use Rattle.textarea_document.specs.Prelude.{as_nanos, AtomicRange, Fits, Log, DocumentState, PastRanges, document_of, after_edit, past_ranges_after, ranges_to_remember, recorded, with_newest, IsSound}
use Rattle.textarea_document.proofs.Sounds.{changed_is, sound_edited}
use Rattle.textarea_document.proofs.document.Document.edit.Goals as goal
use Rattle.textarea_document.proofs.document.Document.edit.Goals.{After-remember}

-- the remembered ranges are those after the edit
remembered : (c : After-remember) →
    past_of c.remember.new.self ≡ past_ranges_after
    (document_of c.self.inside.text_layout c.self.inside.cursor c.self.inside.anchor c.self.inside.ranges.items c.self.inside.history.log
    (changes_of c.self.inside.changes) (past_of c.self.inside.range_history)) c.args.edit.splice c.args.typed (as_nanos c.args.now)
remembered c =
    let inside = c.self.inside in
    let splice = c.args.edit.splice in
    let now = as_nanos c.args.now in
    let past = past_of inside.range_history in
    let kept = ranges_to_remember past inside.ranges.items inside.history.log splice c.args.typed now in
    let undone = c.undone_len-undone.result in
    let done = c.done_len.result in
    let log_is = c.reserve.ensures.same in
    c.remember.ensures
    ∙ ap (λ (p : PastRanges). with_newest p (ranges_of c.in_ok-kept.kept) undone done) c.prepare.ensures.same
    ∙ ap (λ (k : Option (List AtomicRange)). with_newest past k undone done) (c.in_ok-kept.ensures.kept ∙ ap (λ (l : Log). ranges_to_remember past inside.ranges.items l splice c.args.typed now) log_is)
    ∙ ap (λ (n : ℕ). with_newest past kept n done) (c.undone_len-undone.ensures ∙ ap (λ (l : Log). length l.undone) log_is)
    ∙ ap (λ (n : ℕ). with_newest past kept (length inside.history.log.undone) n)
    (c.done_len.ensures ∙ ap (λ (l : Log). length l.done) (c.put.ensures ∙ ap (λ (l : Log). recorded l splice c.args.typed now) log_is))

-- the resulting document is the one after the edit
left : (c : After-remember) →
    document_of c.make_change.new.text_layout c.in_ok-cursor.cursor None c.make_change.new.ranges.items c.put.new.self.log (changes_of c.make_change.new.changes) (past_of c.remember.new.self) ≡ after_edit
    (document_of c.self.inside.text_layout c.self.inside.cursor c.self.inside.anchor c.self.inside.ranges.items c.self.inside.history.log
    (changes_of c.self.inside.changes) (past_of c.self.inside.range_history)) c.args.edit.splice c.args.typed (as_nanos c.args.now)
left c =
    let inside = c.self.inside in
    let splice = c.args.edit.splice in
    let now = as_nanos c.args.now in
    let is = c.in_ok-cursor.ensures in
    let document = document_of inside.text_layout inside.cursor inside.anchor inside.ranges.items inside.history.log (changes_of inside.changes) (past_of inside.range_history) in
    ap (λ (p : PastRanges). document_of c.make_change.new.text_layout c.in_ok-cursor.cursor None c.make_change.new.ranges.items c.put.new.self.log (changes_of c.make_change.new.changes) p) (remembered c)
    ∙ ap (λ (d : DocumentState). record d { past_ranges = past_ranges_after document splice c.args.typed now })
    (changed_is inside.text_layout c.make_change.new.text_layout inside.cursor c.in_ok-cursor.cursor inside.anchor inside.ranges.items c.make_change.new.ranges.items inside.history.log
    c.put.new.self.log (recorded inside.history.log splice c.args.typed now) (changes_of inside.changes) (changes_of c.make_change.new.changes) (past_of inside.range_history) _ splice c.change.ensures is.text_layout is.cursor is.ranges
    (c.put.ensures ∙ ap (λ (l : Log). recorded l splice c.args.typed now) c.reserve.ensures.same) is.changes)

pub invariant_of-self-2 : goal.invariant_of-self-2
invariant_of-self-2 c =
    let inside = c.self.inside in
    let document = document_of inside.text_layout inside.cursor inside.anchor inside.ranges.items inside.history.log (changes_of inside.changes) (past_of inside.range_history) in
    subst IsSound (sym (left (goal.at.invariant_of-self-2 c).After-remember))
    (sound_edited document c.args.edit.splice c.args.typed (as_nanos c.args.now) c.self.invariant (subst (λ (s : DocumentState). Fits s.text c.args.edit.splice) (sym c.self.view_is) c.requires.fits))
