use Rattle.std.proofs.Common.{◌≡◌, ◌++◌}
use Rattle.std.specs.Prelude.{string_bytes}
use Rattle.std.specs.Str.{chars, IsUtf8}
use Rattle.std.specs.Str.Iter.{chars_rest}
use Rattle.textarea_terminal.specs.Disputed.{before_selector}
use Rattle.textarea_terminal.proofs.output.part.before_selector.Given as goal

-- the part so far, and the part of the characters that are left, are the whole part
abbrev pub invariant-loop-c : goal.invariant-loop-c
invariant-loop-c l = record {
  text : IsUtf8 (chars_rest l.c-iterator);
  left : string_bytes l.part ++ before_selector (chars (chars_rest l.c-iterator)) ≡ before_selector (chars l.text);
}
