use Rattle.textarea_ranges.specs.Moved.{IsMovable, moved_by}
use Rattle.textarea_ranges.proofs.Closing.{Closing}
use Rattle.textarea_ranges.proofs.moved.close_up.Given as goal

-- the ranges that are left are in front, and those from the index on are unchanged
abbrev pub invariant-loop-index : goal.invariant-loop-index
invariant-loop-index l =
    Closing (moved_by l.start l.old l.new) IsMovable l.ranges l.retained l.index l.first l.initial.ranges
