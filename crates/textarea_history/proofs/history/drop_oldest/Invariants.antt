use Rattle.std.proofs.Common.{◌≡◌, drop}
use Rattle.textarea_history.specs.Prelude.{deque_capacity}
use Rattle.textarea_history.proofs.history.drop_oldest.Given as goal

abbrev pub invariant-loop : goal.invariant-loop
invariant-loop l = (l.items.items ≡ drop l.counter l.fn.items.items) × (deque_capacity l.items ≡ deque_capacity l.fn.items)
