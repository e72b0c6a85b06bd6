use Rattle.std.proofs.Common.{◌≡◌, ◌++◌}
use Rattle.textarea_terminal.specs.Control.{bytes_of}
use Rattle.textarea_terminal.specs.Parted.{blank_prints}
use Rattle.textarea_terminal.proofs.output.brush.write_blanks.Given as goal

abbrev pub invariant-loop : goal.invariant-loop
invariant-loop l = l.bytes.items ≡ l.initial.bytes.items ++ bytes_of (blank_prints l.counter)
