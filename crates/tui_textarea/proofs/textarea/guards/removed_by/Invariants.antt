use Rattle.std.proofs.Common.{◌≡◌, ◌≤◌, ◌*◌, take}
use Rattle.tui_textarea.specs.Fitting.{removed_by}
use Rattle.tui_textarea.proofs.textarea.guards.removed_by.Given as goal

-- the sum so far
abbrev pub invariant-loop-stretch : goal.invariant-loop-stretch
invariant-loop-stretch l = record {
  sum : l.removed ≡ removed_by (take l.stretch-index l.stretches);
  bound : l.removed ≤ l.stretch-index * 18446744073709551615;
}
