use Rattle.std.proofs.Common.{◌≡◌, ℕ, ◌<◌, ◌≤◌, ◌-◌, false, length, true}
use Rattle.textarea_text.specs.Place.{line_of}
use Rattle.textarea_text.specs.Text.{lines_of}
use Rattle.textarea_clusters.specs.Stops.{is_stop}
use Rattle.textarea_clusters.proofs.stops.stop_ahead.Given as goal

-- the first stop is at or after this column, and it is the column if nothing that contains it ends
-- after it
abbrev pub invariant-loop-stop : goal.invariant-loop-stop
invariant-loop-stop l =
    (l.stop ≤ l.after) × (l.place.1 ≤ l.stop) × (l.after ≤ length (line_of (lines_of l.lines) l.place.0))
    × (l.after ≡ l.stop → is_stop l.ranges (lines_of l.lines) (l.place.0, l.stop) ≡ true)
    × ((column : ℕ) → l.place.1 ≤ column → column < l.after → is_stop l.ranges (lines_of l.lines) (l.place.0, column) ≡ false)

abbrev pub decreases-loop-stop : goal.decreases-loop-stop
decreases-loop-stop l = length (line_of (lines_of l.lines) l.place.0) - l.stop
