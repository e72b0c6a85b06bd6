use Rattle.std.proofs.lemmas.Grind.{common_steps}
use Rattle.std.proofs.Common.{sym, arith, rules}
use Rattle.textarea_screen.proofs.BufferLemmas.{cell_at-inside}
use Rattle.textarea_screen.proofs.ChangeLemmas.{cell_at-outside}
use Rattle.textarea_screen.proofs.screen.buffer.Buffer.cell.Goals as goal

pub returns-then-contains-clause-value : goal.returns-then-contains-clause-value
returns-then-contains-clause-value c = grind (arith, common_steps, cell_at-inside)

pub returns-else-contains-clause-value : goal.returns-else-contains-clause-value
returns-else-contains-clause-value c = sym (cell_at-outside c.args.self.now c.args.x c.args.y (search rules))
