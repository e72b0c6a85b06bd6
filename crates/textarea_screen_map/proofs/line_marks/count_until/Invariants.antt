use Rattle.std.proofs.Common.{◌-◌, ◌<◌, ◌≤◌, get_or, length}
use Rattle.textarea_screen_map.specs.LineMarks.{line_start}
use Rattle.textarea_screen_map.proofs.line_marks.count_until.Given as goal

-- the mark before `low` is not after the column or the display column
abbrev pub invariant-halving : goal.invariant-halving
invariant-halving l = record {
  ordered : l.low ≤ l.high;
  within : l.high ≤ length l.marks;
  column : 0 < l.low → (get_or l.marks (l.low - 1) line_start).column ≤ l.column;
  display : 0 < l.low → (get_or l.marks (l.low - 1) line_start).display ≤ l.display;
}

abbrev pub decreases-halving : goal.decreases-halving
decreases-halving l = l.high - l.low
