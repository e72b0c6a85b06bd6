use Rattle.textarea_search.specs.PlainTexts.{text_pattern}
use Rattle.textarea_run.proofs.OutOfMemory.{text_result_is}
use Rattle.textarea_run.proofs.special.set_search_text.Goals as goal

pub returns-clause-answer : goal.returns-clause-answer
returns-clause-answer c =
    text_result_is c.args.area.now (text_pattern c.args.text.now c.args.ignore_case c.args.whole_word) c.set_search_text.result c.pattern_result.result c.pattern_result.ensures
    c.set_search_text.ensures.is_new c.set_search_text.ensures.pattern_failure c.set_search_text.ensures.carried
