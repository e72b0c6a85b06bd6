use Rattle.std.proofs.Common.{take}
use Rattle.textarea_text.specs.Text.{lines_of}
use Rattle.textarea_lines.specs.RowsAtOnce.{AreRowsAtOnce}
use Rattle.textarea_lines.proofs.rows_at_once.rows_at_once.Given as goal

-- the lines so far have their rows
abbrev pub invariant-loop-i : goal.invariant-loop-i
invariant-loop-i l = AreRowsAtOnce l.old l.initial.count (take l.i (lines_of l.lines)) (take l.i l.origins) l.rows.items l.count
