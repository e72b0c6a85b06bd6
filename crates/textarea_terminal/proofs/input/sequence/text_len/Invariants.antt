use Rattle.std.proofs.Common.{◌≡◌, ◌+◌, ◌-◌, ◌≤◌, drop}
use Rattle.textarea_terminal.specs.InputSequence.{count_front, is_text, text_limit}
use Rattle.textarea_terminal.proofs.input.sequence.text_len.Given as goal

-- each byte so far is a string's, so those that are left complete the count
abbrev pub invariant-loop-byte : goal.invariant-loop-byte
invariant-loop-byte l = record {
  index : l.len ≡ l.begun + l.byte-index;
  limit : l.len ≤ text_limit;
  count : l.len + count_front is_text (text_limit - l.len) (drop l.len l.bytes) ≡ count_front is_text text_limit l.bytes;
}
