use Rattle.std.proofs.Common.{◌≡◌, ◌+◌, ◌≤◌, min}
use Rattle.std.specs.Str.{chars, IsUtf8}
use Rattle.std.specs.Str.Iter.{chars_rest}
use Rattle.textarea_editor.proofs.shortened.columns_of.Given as goal
use Rattle.textarea_editor.specs.Shortened.{character_columns}

-- the columns so far, and those of the characters that are left, are those of the text
abbrev pub invariant-loop-c : goal.invariant-loop-c
invariant-loop-c l = record {
  text : IsUtf8 (chars_rest l.c-iterator);
  few : l.columns ≤ 65535;
  left : min 65535 (l.columns + character_columns (chars (chars_rest l.c-iterator))) ≡ min 65535 (character_columns (chars l.text));
}
