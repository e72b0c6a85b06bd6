use Rattle.std.proofs.Common.{arith}
use Rattle.textarea_wrap.proofs.wrap.kept.kept_count.Goals as goal

pub last_parting-second-requires-clause-boundaries : goal.last_parting-second-requires-clause-boundaries
last_parting-second-requires-clause-boundaries c = λ k within before.
    c.requires k within (omega (arith, before, c.last_parting-third.ensures.before (omega arith)))

pub last_parting-requires-clause-boundaries : goal.last_parting-requires-clause-boundaries
last_parting-requires-clause-boundaries c = λ k within before.
    c.requires k within (omega (arith, before, c.last_parting-second.ensures.before (omega arith), c.last_parting-third.ensures.before (omega arith)))
