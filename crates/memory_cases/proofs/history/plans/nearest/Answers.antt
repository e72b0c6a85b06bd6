use Rattle.textarea_text.proofs.Befores.{text_place}
use Rattle.memory_cases.proofs.history.plans.nearest.Goals as goal

pub returns-then-column-le-LIMIT-clause-text : goal.returns-then-column-le-LIMIT-clause-text
returns-then-column-le-LIMIT-clause-text c = text_place c.args.lines.now c.clip-row.result c.clip-row.ensures.is_place
