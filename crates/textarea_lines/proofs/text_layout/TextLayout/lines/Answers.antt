use Rattle.std.proofs.lemmas.Grind.{common_steps}
use Rattle.std.proofs.Common.{arith}
use Rattle.textarea_lines.proofs.Stores.{lines_stored}
use Rattle.textarea_lines.proofs.text_layout.TextLayout.lines.Goals as goal

pub returns-clause-lines : goal.returns-clause-lines
returns-clause-lines c = grind (arith, common_steps, lines_stored c.self.inside.lines.items c.self.invariant.contents.stored.some)
