use Rattle.std.proofs.Common.{◌≡◌, ◌+◌, length}
use Rattle.std.specs.List.{count_by}
use Rattle.textarea_editor.specs.ControlCharacters.{is_control}
use Rattle.textarea_editor.proofs.control_characters.controls_in.Given as goal

abbrev pub invariant-counting : goal.invariant-counting
invariant-counting l = l.count + count_by is_control l.rest ≡ count_by is_control l.line

abbrev pub decreases-counting : goal.decreases-counting
decreases-counting l = length l.rest
