use Rattle.std.proofs.Common.{◌≡◌, ◌++◌}
use Rattle.std.specs.Str.{chars, IsUtf8}
use Rattle.std.specs.Str.Iter.{chars_rest}
use Rattle.textarea_editor.proofs.shortened.characters.Given as goal

-- the characters so far, and those that are left, are those of the text
abbrev pub invariant-loop-c : goal.invariant-loop-c
invariant-loop-c l = record {
  text : IsUtf8 (chars_rest l.c-iterator);
  left : l.characters.items ++ chars (chars_rest l.c-iterator) ≡ chars l.text;
}
