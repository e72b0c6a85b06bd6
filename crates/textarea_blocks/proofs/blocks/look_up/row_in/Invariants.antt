use Rattle.std.proofs.Common.{◌≡◌, ◌+◌, ◌-◌, length, take}
use Rattle.textarea_blocks.specs.Sums.{row_total}
use Rattle.textarea_blocks.proofs.blocks.look_up.row_in.Given as goal

-- `left` is the number of rows from the line's first row to the row that is looked for
abbrev pub invariant-walking : goal.invariant-walking
invariant-walking l = row_total (take l.line l.rows) + l.left ≡ l.row

abbrev pub decreases-walking : goal.decreases-walking
decreases-walking l = length l.rows - l.line
