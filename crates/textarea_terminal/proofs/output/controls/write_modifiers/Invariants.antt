use Rattle.std.proofs.Common.{◌≡◌, ◌≤◌, ◌+◌, ◌++◌, drop}
use Rattle.textarea_terminal.specs.Pen.{renditions_bytes, parameter_count, added, all_numbers}
use Rattle.textarea_terminal.proofs.output.controls.write_modifiers.Given as goal

abbrev pub invariant-loop-number : goal.invariant-loop-number
invariant-loop-number l =
    (l.bytes.items ++ renditions_bytes (added l.modifier (drop l.number-index all_numbers)) ≡ l.initial.bytes.items ++ renditions_bytes (added l.modifier all_numbers))
    × (l.count + parameter_count (added l.modifier (drop l.number-index all_numbers)) ≡ parameter_count (added l.modifier all_numbers))
    × (l.count ≤ l.number-index)
