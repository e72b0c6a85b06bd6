-- The condition of a replacement of lines, and what is prepared for it.
use Rattle.std.specs.Prelude.{◌≡◌, ℕ, ◌+◌, ◌^◌, ◌<◌, ◌≤◌, List, Option, String, length, vec_len}
use Rattle.std.specs.declared.alloc.Global.{Global}
use Rattle.textarea_text.specs.Text.{lines_of}
use Rattle.textarea_text.specs.declared.rows.Replacement.{Replacement}
use Rattle.textarea_screen_map.specs.LineRows.{AreRowsOf}
use Rattle.textarea_screen_map.specs.Map.{MapView}
use Rattle.textarea_screen_map.specs.Prepared.{CanPutRows, rows_with}
use Rattle.textarea_screen_map.specs.declared.screen_map.PreparedRows.{PreparedRows}
use Rattle.textarea_lines.specs.declared.settings.LayoutSettings.{LayoutSettings}
use Rattle.textarea_lines.specs.TextLayout.{Origins, after_replacement, count_after, layout_of, lines_after}
use Rattle.textarea_lines.specs.Wrappings.{wrapping_for}

-- the map has the rows of the lines, wrapped by the settings, and the replacement is within them
pub record CanReplace (settings : LayoutSettings) (lines : List (String Global)) (map : MapView) (replacement : Replacement) : Type 0 where
  pub rows : AreRowsOf map.wrapping (lines_of lines) map.rows
  pub wrapping : map.wrapping ≡ wrapping_for settings (length lines)
  pub within : replacement.row + replacement.count ≤ length lines
  pub few : length lines + vec_len replacement.lines < 2 ^ 63

-- the map has room for these rows, and with them the right rows and count after the replacement
pub record AreReadyRows (settings : LayoutSettings) (lines : List (String Global)) (map : MapView) (replacement : Replacement) (count after : ℕ) (prepared : PreparedRows) : Type 0 where
  pub ready : CanPutRows map prepared
  pub wrapping : prepared.wrapping ≡ wrapping_for settings (count_after (length lines) replacement)
  pub rows : AreRowsOf prepared.wrapping (lines_after lines replacement) (rows_with map.rows prepared)
  pub layout : (origins : Option Origins) → layout_of settings after (rows_with map.rows prepared) origins
      ≡ after_replacement (layout_of settings count map.rows origins) (length lines) replacement.row replacement.count (vec_len replacement.lines)
