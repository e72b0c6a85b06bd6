use Rattle.std.proofs.Common.{◌≡◌}
use Rattle.textarea_text.specs.Text.{lines_of}
use Rattle.textarea_screen_map.specs.LineRows.{AreRowsOf}
use Rattle.textarea_parts_tests.proofs.map.follows_breaks.Given as goal

-- the map has the right visual rows of the lines
abbrev pub invariant-loop-step : goal.invariant-loop-step
invariant-loop-step l = AreRowsOf l.wrapping (lines_of l.lines.items) l.map.rows × (l.map.wrapping ≡ l.wrapping)
