use Rattle.std.proofs.Common.{◌≡◌}
use Rattle.textarea_document.specs.Prelude.{Utf16, unit_count}
use Rattle.textarea_document.proofs.document.changes.utf16_offset.Given as goal

abbrev pub invariant-loop-c : goal.invariant-loop-c
invariant-loop-c l = l.units ≡ unit_count Utf16 l.yielded
