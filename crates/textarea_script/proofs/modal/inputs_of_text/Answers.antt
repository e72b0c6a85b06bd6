use Rattle.std.proofs.Common.{rules}
use Rattle.std.proofs.lemmas.Iterator.{YieldsList-from_chars, YieldsList-from_map, items_from_collect}
use Rattle.textarea_script.specs.Session.{input_of_character}
use Rattle.textarea_script.proofs.modal.inputs_of_text.Goals as goal

pub returns : goal.returns
returns c = items_from_collect _ c.collect.ensures.ran (YieldsList-from_map _ input_of_character (YieldsList-from_chars c.args.text.now (search rules) cc) c.map.ensures.closure (λ x r q k. search rules))
