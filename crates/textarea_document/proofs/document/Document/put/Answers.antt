use Rattle.std.proofs.Common.{◌≡◌, ◌∙◌, false, length, sym, ap, subst}
use Rattle.textarea_document.specs.ChangeLog.{changes_of}
use Rattle.textarea_document.specs.RangeHistory.{past_of}
use Rattle.textarea_document.specs.Prelude.{DocumentState, LoggedChanges, document_of, is_grouped, with_changes_after, wrapped_at_once}
use Rattle.textarea_document.proofs.Sounds.{sound_whole, sound_wrapped, wrapped_is}
use Rattle.textarea_document.proofs.document.Document.put.Goals as goal

pub invariant_of-self-2 : goal.invariant_of-self-2
invariant_of-self-2 c =
    let before = c.self.inside in
    let inside = c.draft.inside in
    let old = document_of before.text_layout before.cursor before.anchor before.ranges.items before.history.log (changes_of before.changes) (past_of before.range_history) in
    let draft = document_of inside.text_layout inside.cursor inside.anchor inside.ranges.items inside.history.log (changes_of inside.changes) (past_of inside.range_history) in
    sound_wrapped old draft c.in_ok-wrapped.wrapped (changes_of c.append.new.self) c.in_ok-wrapped.ensures
    (sound_whole draft c.draft.invariant (subst (λ (d : DocumentState). is_grouped d.log.marks (length d.log.done) ≡ false) (sym c.draft.view_is) c.requires.whole))

pub returns-clause-ok : goal.returns-clause-ok
returns-clause-ok c =
    let before = c.self.inside in
    let inside = c.draft.inside in
    let old = document_of before.text_layout before.cursor before.anchor before.ranges.items before.history.log (changes_of before.changes) (past_of before.range_history) in
    let draft = document_of inside.text_layout inside.cursor inside.anchor inside.ranges.items inside.history.log (changes_of inside.changes) (past_of inside.range_history) in
    wrapped_is old draft c.in_ok-wrapped.wrapped (changes_of c.append.new.self) c.in_ok-wrapped.ensures
    ∙ ap (λ (changes : LoggedChanges). record (wrapped_at_once old draft) { changes = changes }) c.in_ok-append.ensures.ok
    ∙ ap (λ (d : DocumentState). with_changes_after d.changes (wrapped_at_once d draft)) c.self.view_is
    ∙ ap (λ (d : DocumentState). with_changes_after c.args.self.now.changes (wrapped_at_once c.args.self.now d)) c.draft.view_is
