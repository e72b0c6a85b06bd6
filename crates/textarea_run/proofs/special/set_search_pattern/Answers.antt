use Rattle.textarea_run.proofs.OutOfMemory.{pattern_result_is}
use Rattle.textarea_run.proofs.special.set_search_pattern.Goals as goal

pub returns-clause-answer : goal.returns-clause-answer
returns-clause-answer c =
    let set = c.set_search_pattern.ensures in
    pattern_result_is c.args.area.now c.args.pattern.now c.set_search_pattern.result c.pattern_result.result c.pattern_result.ensures set.empty set.present set.pattern_failure set.carried
