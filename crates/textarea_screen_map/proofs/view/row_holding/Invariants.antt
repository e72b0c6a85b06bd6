use Rattle.std.proofs.Common.{◌-◌, ◌<◌, ◌≤◌, length}
use Rattle.textarea_blocks.specs.Sums.{range_at}
use Rattle.textarea_screen_map.proofs.view.row_holding.Given as goal

-- the row that is looked for is from `low` on and before `high`
abbrev pub invariant-halving : goal.invariant-halving
invariant-halving l =
    (l.low < l.high) × (l.high ≤ length l.ranges) × ((range_at l.ranges l.low).0 ≤ l.offset) × (l.high < length l.ranges → l.offset < (range_at l.ranges l.high).0)

abbrev pub decreases-halving : goal.decreases-halving
decreases-halving l = l.high - l.low
