use Rattle.std.proofs.Common.{◌≡◌, ◌+◌, drop, length, take}
use Rattle.textarea_document.specs.Prelude.{chars}
use Rattle.textarea_document.specs.Indenting.{free_spaces}
use Rattle.textarea_document.proofs.document.indenting.free_spaces.Given as goal

-- the spaces so far, and those of what is left
abbrev pub invariant-loop-c : goal.invariant-loop-c
invariant-loop-c l =
    let line = take l.tab_length (chars l.line) in
    (l.count ≡ length l.yielded) × (l.count + free_spaces l.ranges l.row l.count (drop l.count line) ≡ free_spaces l.ranges l.row 0 line)
