use Rattle.std.proofs.Common.{◌≡◌, ◌++◌}
use Rattle.std.specs.List.{flat_map}
use Rattle.std.specs.Prelude.{string_bytes}
use Rattle.std.specs.Str.{chars, IsUtf8}
use Rattle.std.specs.Str.Iter.{chars_rest}
use Rattle.textarea_terminal.specs.Title.{printable_bytes}
use Rattle.textarea_terminal.proofs.output.title.push_printable.Given as goal

-- the bytes so far, and those of the characters that are left, are all bytes
abbrev pub invariant-loop-c : goal.invariant-loop-c
invariant-loop-c l = record {
  text : IsUtf8 (chars_rest l.c-iterator);
  left : string_bytes l.text ++ flat_map printable_bytes (chars (chars_rest l.c-iterator)) ≡ string_bytes l.initial.text ++ flat_map printable_bytes (chars l.title);
}
