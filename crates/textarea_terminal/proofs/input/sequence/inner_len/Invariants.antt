use Rattle.std.proofs.Common.{◌≡◌, ◌+◌, ◌-◌, ◌≤◌, drop}
use Rattle.textarea_terminal.specs.InputSequence.{count_front, is_inner, inner_limit}
use Rattle.textarea_terminal.proofs.input.sequence.inner_len.Given as goal

-- each byte so far is inner, so those that are left complete the count
abbrev pub invariant-loop-byte : goal.invariant-loop-byte
invariant-loop-byte l = record {
  index : l.len ≡ l.byte-index;
  limit : l.len ≤ inner_limit;
  count : l.len + count_front is_inner (inner_limit - l.len) (drop l.len l.bytes) ≡ count_front is_inner inner_limit l.bytes;
}
