use Rattle.std.proofs.Common.{◌≡◌, ◌++◌, drop, length}
use Rattle.textarea_ranges.specs.Prelude.{line_of, lines_of, rejected_after, rejected_of}
use Rattle.textarea_ranges.proofs.validate.rejected_of.Given as goal

-- the rejected ranges so far, and those of the rest after the last valid range, are all; and the
-- row that was counted last has the columns of its line
abbrev pub invariant-loop-range : goal.invariant-loop-range
invariant-loop-range l =
    (l.rejected.items ++ rejected_after (lines_of l.lines) l.last (drop l.range-index l.ranges) ≡ rejected_of (lines_of l.lines) l.ranges)
    × (l.counted.columns ≡ length (line_of (lines_of l.lines) l.counted.row))
