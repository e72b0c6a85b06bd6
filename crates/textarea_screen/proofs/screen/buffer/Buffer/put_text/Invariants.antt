use Rattle.std.proofs.Common.{◌+◌, ◌<◌, ◌≤◌, true, eqb}
use Rattle.textarea_screen.specs.Buffer.{Changes, wide_symbol}
use Rattle.textarea_screen.specs.Cell.{with_symbol}
use Rattle.textarea_screen.proofs.BufferLemmas.{change_between}
use Rattle.textarea_screen.proofs.screen.buffer.Buffer.put_text.Given as goal

abbrev pub invariant-loop-column : goal.invariant-loop-column
invariant-loop-column l = record {
  written : Changes l.fn.self l.self (change_between l.y l.x l.column (λ u. with_symbol (wide_symbol true (eqb u l.x) l.fn.text) l.style));
  begun : l.x < l.column;
  after : l.column ≤ l.x + l.columns;
}
