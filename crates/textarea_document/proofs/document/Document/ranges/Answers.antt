use Rattle.textarea_document.specs.Prelude.{lines}
use Rattle.textarea_document.proofs.Ranges.{apart_slice}
use Rattle.textarea_document.proofs.document.Document.ranges.Goals as goal

pub returns-clause-apart : goal.returns-clause-apart
returns-clause-apart c = apart_slice (lines c.self.inside.text_layout.text) _ _ c.self.invariant.ranges c.self.invariant.in_order c.as_slice.ensures.value
