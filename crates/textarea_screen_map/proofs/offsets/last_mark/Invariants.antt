use Rattle.std.proofs.Common.{ℕ, ◌-◌, ◌≤◌, List, length}
use Rattle.textarea_screen_map.specs.KnownColumns.{AreColumnsAtBytes, IsColumnAtByte}
use Rattle.textarea_screen_map.proofs.offsets.last_mark.Given as goal

-- the last mark so far is one of the marks, or the line's start, and not after the column or offset
abbrev pub invariant-halving : goal.invariant-halving
invariant-halving l =
    (l.high ≤ length l.marks) × ((line : List ℕ) → AreColumnsAtBytes line l.marks → IsColumnAtByte line l.last)
    × (l.last.0 ≤ l.column) × (l.last.1 ≤ l.offset)

abbrev pub decreases-halving : goal.decreases-halving
decreases-halving l = l.high - l.low
