use Rattle.textarea_lines.proofs.Wrapping.{splices_grow}
use Rattle.textarea_lines.proofs.WrappingOnce.{once_grows}
use Rattle.textarea_lines.proofs.laws.count_never_falls.Goals as goal

pub returns-clause-splices : goal.returns-clause-splices
returns-clause-splices c = splices_grow

pub returns-clause-at_once : goal.returns-clause-at_once
returns-clause-at_once c = once_grows
