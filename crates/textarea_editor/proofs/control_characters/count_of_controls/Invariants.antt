use Rattle.std.proofs.Common.{◌≡◌, take}
use Rattle.std.specs.List.{count_by}
use Rattle.textarea_editor.specs.ControlCharacters.{is_control}
use Rattle.textarea_editor.proofs.control_characters.count_of_controls.Given as goal

abbrev pub invariant-loop-byte : goal.invariant-loop-byte
invariant-loop-byte l = l.count ≡ count_by is_control (take l.byte-index l.bytes)
