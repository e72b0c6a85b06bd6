use Rattle.std.proofs.Common.{◌≡◌, ◌∷◌, ◌++◌, string_bytes, take}
use Rattle.std.specs.Str.{chars, IsUtf8}
use Rattle.std.specs.Str.Iter.{chars_rest}
use Rattle.textarea_editor.specs.Indents.{indentation}
use Rattle.textarea_editor.proofs.indent.with_indent.Given as goal

-- the text so far, and what may be taken of the indent of the characters that are left, are the whole text
abbrev pub invariant-loop-c : goal.invariant-loop-c
invariant-loop-c l = record {
  text : IsUtf8 (chars_rest l.c-iterator);
  left : string_bytes l.text ++ take l.room (indentation (chars (chars_rest l.c-iterator))) ≡ 10 ∷ take l.column (indentation (chars l.line));
}
