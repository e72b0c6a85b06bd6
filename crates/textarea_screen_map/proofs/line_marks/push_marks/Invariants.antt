use Rattle.std.proofs.Common.{ℕ, ◌-◌, ◌<◌, ◌≤◌, get_or, length}
use Rattle.std.specs.Str.{chars}
use Rattle.textarea_screen_map.specs.LineMarks.{AreMarks, IsMark, line_start}
use Rattle.textarea_screen_map.proofs.line_marks.push_marks.Given as goal

-- the marks so far, none of them after the last one
abbrev pub invariant-marking : goal.invariant-marking
invariant-marking l = record {
  right : AreMarks l.tab_len (chars l.line) l.marks.items;
  last : IsMark l.tab_len (chars l.line) l.last;
  up_to : (i : ℕ) → i < length l.marks.items → (get_or l.marks.items i line_start).column ≤ l.last.column;
}

abbrev pub decreases-marking : goal.decreases-marking
decreases-marking l = l.column - l.last.column
