use Rattle.textarea_paint.proofs.UnitLemmas.{sized-apart, unit-sized}
use Rattle.textarea_paint.proofs.paint.units.after_sized.Goals as goal

pub returns-then-text-after-clause-apart : goal.returns-then-text-after-clause-apart
returns-then-text-after-clause-apart c = sized-apart c.utf8.text (unit-sized c.in_ok-found.ensures c.if-text-after.true)
