use Rattle.std.proofs.Common.{◌-◌, ◌≤◌, length, take}
use Rattle.textarea_text.specs.Text.{lines_of}
use Rattle.textarea_blocks.specs.Blocks.{all_rows}
use Rattle.textarea_lines.specs.RowsAtOnce.{AreRowsAtOnce}
use Rattle.textarea_lines.proofs.rows_at_once.push_at_once.Given as goal

-- the lines so far have their rows
abbrev pub invariant-wraps : goal.invariant-wraps
invariant-wraps l =
    (l.from ≤ length l.lines)
    × AreRowsAtOnce l.old l.initial.count (take l.from (lines_of l.lines)) (take l.from l.origins) (all_rows l.blocks.blocks) l.count

abbrev pub decreases-wraps : goal.decreases-wraps
decreases-wraps l = length l.lines - l.from
