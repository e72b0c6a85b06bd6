use Rattle.std.proofs.Common.{◌≡◌, ◌≤◌, length, take, None}
use Rattle.textarea_terminal.specs.InputUnit.{unit_at}
use Rattle.textarea_terminal.specs.InputStream.{AddsUpTo, begun_bytes}
use Rattle.textarea_terminal.specs.InputReply.{made}
use Rattle.textarea_terminal.proofs.input.decoder.read_units.Given as goal

-- the events so far and those of what is left are those of all bytes
abbrev pub invariant-loop-found : goal.invariant-loop-found
invariant-loop-found l = record {
  within : l.begun ≤ length l.rest;
  begun : unit_at (take l.begun l.rest) ≡ None;
  left : begun_bytes l.rest ≡ begun_bytes l.bytes;
  events : AddsUpTo l.fn.events.items l.events.items (made l.expected l.rest).0 (made l.fn.expected l.bytes).0;
  expected : (made l.expected l.rest).1 ≡ (made l.fn.expected l.bytes).1;
}

abbrev pub decreases-loop-found : goal.decreases-loop-found
decreases-loop-found l = length l.rest
