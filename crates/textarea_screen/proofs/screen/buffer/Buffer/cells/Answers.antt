use Rattle.std.proofs.Common.{rules}
use Rattle.textarea_screen.proofs.BufferLemmas.{cell_at-listed}
use Rattle.textarea_screen.proofs.screen.buffer.Buffer.cells.Goals as goal

pub returns-clause-cells : goal.returns-clause-cells
returns-clause-cells c x y inside = cell_at-listed c.args.self.now c.deref.result.now x y inside (search rules)
