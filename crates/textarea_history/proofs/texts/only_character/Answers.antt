use Rattle.std.proofs.Common.{◌∙◌, sym, ap, arith, length}
use Rattle.std.proofs.lemmas.Grind.{common_steps}
use Rattle.textarea_history.proofs.Runs.{only_none, only_one, only_more}
use Rattle.textarea_history.proofs.texts.only_character.Goals as goal

pub returns-in_err-first : goal.returns-in_err-first
returns-in_err-first c = c.from_residual.ensures ∙ only_none c.args.text.now (ap length (sym c.chars-rest.ensures.rest) ∙ c.in_err-first.ensures.steps.0.0)

pub returns : goal.returns
returns c = grind (arith, common_steps, only_one, only_more)
