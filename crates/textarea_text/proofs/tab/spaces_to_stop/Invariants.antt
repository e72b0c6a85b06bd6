use Rattle.std.proofs.Common.{◌≡◌, ◌+◌, ◌%◌, ◌<◌, take}
use Rattle.textarea_text.specs.Prelude.{chars, IsUtf8, chars_rest, width_of}
use Rattle.textarea_text.proofs.tab.spaces_to_stop.Given as goal

-- the width so far, modulo the tab length, and the width of the remaining characters
abbrev pub invariant-loop-c : goal.invariant-loop-c
invariant-loop-c l = record {
  text : IsUtf8 (chars_rest l.c-iterator);
  left : (l.after_stop + width_of (chars (chars_rest l.c-iterator))) % l.tab_length ≡ width_of (take l.column (chars l.line)) % l.tab_length;
  below : l.after_stop < l.tab_length;
}
