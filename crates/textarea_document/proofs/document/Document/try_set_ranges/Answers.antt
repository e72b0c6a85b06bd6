use Rattle.textarea_document.specs.Prelude.{lines, AreValid}
use Rattle.std.proofs.Common.{subst}
use Rattle.textarea_ranges.proofs.RejectedLemmas.{valid_from_in_order}
use Rattle.textarea_document.proofs.document.Document.try_set_ranges.Goals as goal

pub returns-in-Ok-clause-judged : goal.returns-in-Ok-clause-judged
returns-in-Ok-clause-judged c =
    let stored = rw c.in-Ok.is at c.in_ok-stored.ensures in
    valid_from_in_order (lines c.args.self.now.text) c.args.ranges.items (subst (AreValid (lines c.args.self.now.text)) stored.order (rw c.lines.ensures.lines at stored.valid))
