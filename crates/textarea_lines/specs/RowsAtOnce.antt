-- The rows of lines by where they come from: those of an old line, or new ones.
use Rattle.std.specs.Prelude.{◌≡◌, ℕ, ◌+◌, List, Option, Some, slice_get, IfSome}
use Rattle.std.specs.List.{AllZip}
use Rattle.textarea_wrap.specs.RowsView.{RowsView}
use Rattle.textarea_screen_map.specs.LineRows.{AreRowsOf, AreRowsOfLine, ticks_of}
use Rattle.textarea_screen_map.specs.Map.{MapView}
use Rattle.textarea_lines.specs.AtOnce.{ticks_at_once, touched_count}
use Rattle.textarea_lines.specs.TextLayout.{Origins}

-- if a line comes from an old one, the rows of that one are right for it
abbrev pub HasOldRows : MapView → Option ℕ → List ℕ → Type 0
HasOldRows old origin line = IfSome origin
    (λ (number : ℕ). (rows : RowsView) × (slice_get old.rows number ≡ Some rows) × AreRowsOfLine old.wrapping line rows)

-- and so for each line
abbrev pub HaveOldRows : MapView → Origins → List (List ℕ) → Type 0
HaveOldRows old origins lines = AllZip (HasOldRows old) origins lines

-- The rows are right for the lines, in the wrapping of the old map. Lines that come from an old one
-- have its tick, and the others the next ones after `count`, which leads to `after`.
pub record AreRowsAtOnce (old : MapView) (count : ℕ) (lines : List (List ℕ)) (origins : Origins) (rows_of_lines : List RowsView) (after : ℕ) : Type 0 where
  pub rows : AreRowsOf old.wrapping lines rows_of_lines
  pub ticks : ticks_of rows_of_lines ≡ ticks_at_once (ticks_of old.rows) count origins
  pub counted : after ≡ count + touched_count origins
