use Rattle.std.proofs.Common.{◌≡◌, ◌<◌, ◌≤◌, true, eqb}
use Rattle.textarea_screen.specs.Buffer.{Changes, wide_symbol}
use Rattle.textarea_screen.specs.Cell.{with_symbol}
use Rattle.textarea_screen.proofs.BufferLemmas.{change_between}
use Rattle.textarea_screen.proofs.screen.buffer.Buffer.put_wide.Given as goal

abbrev pub invariant-loop-column : goal.invariant-loop-column
invariant-loop-column l = record {
  written : Changes l.fn.self l.self (change_between l.y l.start l.column (λ u. with_symbol (wide_symbol l.is_whole (eqb u l.x) l.text) l.style));
  past : l.is_whole ≡ true → l.x < l.column;
  begun : l.start ≤ l.column;
  after : l.column ≤ l.end;
}
