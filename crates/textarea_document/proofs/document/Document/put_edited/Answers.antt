use Rattle.std.proofs.Common.{◌∙◌, ap}
use Rattle.textarea_document.specs.ChangeLog.{changes_of}
use Rattle.textarea_document.specs.RangeHistory.{past_of}
use Rattle.textarea_document.specs.Prelude.{DocumentState, document_of, wrapped_at_once}
use Rattle.textarea_document.proofs.Sounds.{sound_wrapped, wrapped_is}
use Rattle.textarea_document.proofs.document.Document.put_edited.Goals as goal

pub invariant_of-self : goal.invariant_of-self
invariant_of-self c =
    let before = c.self.inside in
    let inside = c.copy.inside in
    let old = document_of before.text_layout before.cursor before.anchor before.ranges.items before.history.log (changes_of before.changes) (past_of before.range_history) in
    let copy = document_of inside.text_layout inside.cursor inside.anchor inside.ranges.items inside.history.log (changes_of inside.changes) (past_of inside.range_history) in
    sound_wrapped old copy c.in_ok-wrapped.wrapped (changes_of inside.changes) c.in_ok-wrapped.ensures c.copy.invariant

pub returns-clause-ok : goal.returns-clause-ok
returns-clause-ok c =
    let before = c.self.inside in
    let inside = c.copy.inside in
    let old = document_of before.text_layout before.cursor before.anchor before.ranges.items before.history.log (changes_of before.changes) (past_of before.range_history) in
    let copy = document_of inside.text_layout inside.cursor inside.anchor inside.ranges.items inside.history.log (changes_of inside.changes) (past_of inside.range_history) in
    wrapped_is old copy c.in_ok-wrapped.wrapped (changes_of inside.changes) c.in_ok-wrapped.ensures
    ∙ ap (λ (d : DocumentState). wrapped_at_once d copy) c.self.view_is
    ∙ ap (wrapped_at_once c.args.self.now) c.copy.view_is
