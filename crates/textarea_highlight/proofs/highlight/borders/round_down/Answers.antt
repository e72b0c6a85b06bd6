use Rattle.std.proofs.Common.{arith}
use Rattle.std.proofs.lemmas.Grind.{common_steps}
use Rattle.textarea_highlight.proofs.BorderLemmas.{rounded}
use Rattle.textarea_highlight.proofs.highlight.borders.round_down.Goals as goal

pub returns-clause-value : goal.returns-clause-value
returns-clause-value c = grind (arith, common_steps, rounded)
