use Rattle.std.proofs.Common.{subst, arith}
use Rattle.textarea_text.specs.Text.{lines}
use Rattle.textarea_ranges.specs.Lookup.{IsWidened}
use Rattle.textarea_document.proofs.Ranges.{up_to_from_index, widened_ordered}
use Rattle.textarea_document.proofs.document.Document.widen.Goals as goal

known : (c : goal.After-widen) → IsWidened c.args.self.now.ranges c.args.from c.args.to c.widen.result
known c =
    subst (λ r. IsWidened r c.args.from c.args.to c.widen.result) c.ranges-stored.ensures.value
    (c.widen.ensures.whole (lines c.args.self.now.text) c.ranges-stored.ensures.valid (up_to_from_index c.args.self.now.text c.args.from c.args.to c.requires.from c.requires.to (omega (arith, c.requires.ordered))))

pub returns-clause-ordered : goal.returns-clause-ordered
returns-clause-ordered c =
    let text = c.args.self.now.text in
    let places = c.widen.ensures.places (lines text) c.ranges-stored.ensures.valid c.requires.from c.requires.to in
    widened_ordered text c.args.from c.args.to c.widen.result c.requires.from c.requires.to places.0 places.1 (known c).starts (known c).ends c.requires.ordered

pub returns-clause-whole : goal.returns-clause-whole
returns-clause-whole c = (known c).whole
