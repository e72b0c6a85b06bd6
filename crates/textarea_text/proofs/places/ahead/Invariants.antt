use Rattle.std.proofs.Common.{◌≡◌, ◌+◌, ◌≤◌, [], get_or, length}
use Rattle.textarea_text.specs.Prelude.{lines_of, text_of, index_of, row_start}
use Rattle.textarea_text.proofs.places.ahead.Given as goal

-- the rest counts from the column of the row
abbrev pub invariant-loop-row : goal.invariant-loop-row
invariant-loop-row l = record {
  inside : l.column ≤ length (get_or (lines_of l.lines) l.row []);
  left : row_start (text_of l.lines) l.row + l.column + l.left ≡ index_of (text_of l.lines) l.fn.place + l.count;
}
