use Rattle.std.proofs.Common.{◌≡◌, ℕ, ◌<◌, ◌≤◌, false, true}
use Rattle.std.specs.Str.{chars}
use Rattle.textarea_clusters.specs.Stops.{is_column_stop}
use Rattle.textarea_clusters.proofs.stops.column_back.Given as goal

-- the last stop is at or before this column, and it is the column if nothing that contains it begins
-- before it
abbrev pub invariant-loop-before : goal.invariant-loop-before
invariant-loop-before l =
    (l.before ≤ l.stop) × (l.stop ≤ l.place.1)
    × (l.before ≡ l.stop → is_column_stop l.ranges (chars l.line) l.place.0 l.stop ≡ true)
    × ((column : ℕ) → l.before < column → column ≤ l.place.1 → is_column_stop l.ranges (chars l.line) l.place.0 column ≡ false)

abbrev pub decreases-loop-before : goal.decreases-loop-before
decreases-loop-before l = l.stop
