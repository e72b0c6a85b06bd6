use Rattle.std.proofs.Common.{◌-◌, ◌≤◌, max, [], ◌∷◌, get_or}
use Rattle.textarea_screen.specs.Buffer.{Changes}
use Rattle.textarea_screen.specs.Cell.{with_symbol}
use Rattle.textarea_screen.proofs.BufferLemmas.{change_between}
use Rattle.textarea_screen.proofs.screen.buffer.Buffer.put_ascii.Given as goal

abbrev pub invariant-loop-column : goal.invariant-loop-column
invariant-loop-column l = record {
  written : Changes l.fn.self l.self (change_between l.y l.initial.column l.column (λ u. with_symbol (get_or l.text (u - l.x) 0 ∷ []) l.style));
  after : l.column ≤ max l.initial.column l.end;
}
