use Rattle.std.proofs.Common.{arith}
use Rattle.std.proofs.lemmas.Grind.{common_steps}
use Rattle.textarea_search.proofs.FailureLemmas.{failure_of_built, carried_of_built, own_of_built}
use Rattle.textarea_search.proofs.pattern.Pattern.new.Goals as goal

pub returns-clause-pattern_failure : goal.returns-clause-pattern_failure
returns-clause-pattern_failure c = grind (arith, common_steps, failure_of_built)

pub returns-clause-carried : goal.returns-clause-carried
returns-clause-carried c = grind (arith, common_steps, carried_of_built)

pub returns-clause-own : goal.returns-clause-own
returns-clause-own c =
    let from = c.new.ensures in
    let to = c.of_built.ensures in
    own_of_built c.args.pattern.now c.new.result c.of_built.result from.source from.config from.read to.memory to.carried
