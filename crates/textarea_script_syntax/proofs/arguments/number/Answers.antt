use Rattle.std.proofs.Common.{rules, ◌∙◌}
use Rattle.textarea_script_syntax.proofs.Numbers.{number_parsed}
use Rattle.textarea_script_syntax.proofs.arguments.number.Goals as goal

pub returns : goal.returns
returns c = c.ok.ensures.value ∙ number_parsed 64 c.args.text.now c.parse.result c.parse.ensures.value.0 (search rules)
