use Rattle.std.proofs.Common.{◌≡◌, ◌+◌, ◌≤◌, length}
use Rattle.std.specs.Str.Iter.{chars_rest}
use Rattle.textarea_screen_map.proofs.MarkLemmas.{IsWalked}
use Rattle.textarea_screen_map.proofs.line_marks.mark_after.Given as goal

-- the position so far, and the characters after it
abbrev pub invariant-loop-c : goal.invariant-loop-c
invariant-loop-c l = record {
  walked : IsWalked l.tab_len l.line (chars_rest l.c-iterator) l.at.column l.at.display;
  bytes : l.at.offset + length (chars_rest l.c-iterator) ≡ length l.line;
  further : l.fn.known.column ≤ l.at.column;
}
