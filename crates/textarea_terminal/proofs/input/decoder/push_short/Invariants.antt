use Rattle.std.proofs.Common.{◌≡◌, ◌≤◌, length}
use Rattle.textarea_terminal.specs.InputStream.{AddsUpTo, begun_bytes}
use Rattle.textarea_terminal.specs.InputReply.{made}
use Rattle.textarea_terminal.proofs.input.decoder.push_short.Given as goal

-- the keys so far and the events of what is left are those of all bytes
abbrev pub invariant-loop-input : goal.invariant-loop-input
invariant-loop-input l = record {
  left : begun_bytes l.rest ≡ begun_bytes l.bytes;
  events : AddsUpTo l.fn.events.items l.events.items (made l.fn.expected l.rest).0 (made l.fn.expected l.bytes).0;
  expected : (made l.fn.expected l.rest).1 ≡ (made l.fn.expected l.bytes).1;
  shorter : length l.rest ≤ length l.bytes;
}

abbrev pub decreases-loop-input : goal.decreases-loop-input
decreases-loop-input l = length l.rest
