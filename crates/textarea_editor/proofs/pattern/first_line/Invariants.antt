use Rattle.std.proofs.Common.{◌≡◌, ◌++◌}
use Rattle.std.specs.Str.{chars, IsUtf8}
use Rattle.std.specs.Str.Iter.{chars_rest}
use Rattle.textarea_editor.specs.Patterns.{first_line}
use Rattle.textarea_text.specs.Text.{characters_of}
use Rattle.textarea_editor.proofs.pattern.first_line.Given as goal

-- the line so far, and the first line of the characters that are left, are the whole line
abbrev pub invariant-loop-c : goal.invariant-loop-c
invariant-loop-c l = record {
  text : IsUtf8 (chars_rest l.c-iterator);
  left : characters_of l.line ++ first_line (chars (chars_rest l.c-iterator)) ≡ first_line (chars l.text);
}
