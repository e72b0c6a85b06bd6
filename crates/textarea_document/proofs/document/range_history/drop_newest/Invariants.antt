use Rattle.std.proofs.Common.{◌≡◌, ◌≤◌, drop}
use Rattle.std.specs.VecDeque.{deque_capacity, deque_len}
use Rattle.textarea_document.proofs.document.range_history.drop_newest.Given as goal

abbrev pub invariant-loop : goal.invariant-loop
invariant-loop l =
    (l.before.items ≡ drop l.counter l.fn.before.items) × (deque_capacity l.before ≡ deque_capacity l.fn.before) × (deque_len l.before ≤ deque_len l.fn.before)
