use Rattle.textarea_document.specs.ChangeLog.{changes_of}
use Rattle.textarea_document.specs.RangeHistory.{past_of}
use Rattle.textarea_document.specs.Prelude.{document_of}
use Rattle.textarea_document.proofs.Sounds.{sound_changes}
use Rattle.textarea_document.proofs.document.Document.take_changes.Goals as goal

pub invariant_of-self : goal.invariant_of-self
invariant_of-self c =
    let inside = c.self.inside in
    sound_changes (document_of inside.text_layout inside.cursor inside.anchor inside.ranges.items inside.history.log (changes_of inside.changes) (past_of inside.range_history)) (changes_of c.take.new.self) c.self.invariant
