use Rattle.std.proofs.Common.{subst}
use Rattle.textarea_document.specs.Sound.{IsSound}
use Rattle.textarea_document.proofs.StepLaw.{step_keeps}
use Rattle.textarea_document.proofs.document.Document.steps_split_no_range.Goals as goal

pub returns-clause-fits : goal.returns-clause-fits
returns-clause-fits c = λ step made. (step_keeps c.args.self.now step (subst IsSound c.self.view_is c.self.invariant) made).0

pub returns-clause-splits_none : goal.returns-clause-splits_none
returns-clause-splits_none c = λ step made. (step_keeps c.args.self.now step (subst IsSound c.self.view_is c.self.invariant) made).1
