use Rattle.std.proofs.Common.{sym, subst}
use Rattle.textarea_document.specs.ChangeLog.{changes_of}
use Rattle.textarea_document.specs.RangeHistory.{past_of}
use Rattle.textarea_document.specs.Prelude.{IsSound, Log, document_of}
use Rattle.textarea_document.proofs.Sounds.{sound_ended}
use Rattle.textarea_document.proofs.document.Document.end_group.Goals as goal

pub invariant_of-self : goal.invariant_of-self
invariant_of-self c =
    let inside = c.self.inside in
    subst (λ (l : Log). IsSound (document_of inside.text_layout inside.cursor inside.anchor inside.ranges.items l (changes_of inside.changes) (past_of inside.range_history))) (sym c.end_group.ensures)
    (sound_ended (document_of inside.text_layout inside.cursor inside.anchor inside.ranges.items inside.history.log (changes_of inside.changes) (past_of inside.range_history)) c.self.invariant)
