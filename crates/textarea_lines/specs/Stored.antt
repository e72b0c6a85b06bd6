-- The invariant of lines with their rows.
use Rattle.std.specs.Prelude.{◌≡◌, ℕ, ◌+◌, ◌-◌, ◌<◌, ◌≤◌, List, length, String, Option, IfSome, if◌then◌else◌}
use Rattle.textarea_util.specs.Limit.{size_limit}
use Rattle.textarea_text.specs.declared.util.Pos.{Pos}
use Rattle.textarea_text.specs.Offset.{offset_at}
use Rattle.textarea_text.specs.Place.{IsPlaceOf}
use Rattle.textarea_text.specs.Text.{lines_of}
use Rattle.textarea_text.specs.Size.{size_of, weight}
use Rattle.textarea_text.specs.Splice.{Splice}
use Rattle.textarea_screen_map.specs.LineRows.{AreRowsOf, ticks_after, ticks_of}
use Rattle.textarea_lines.specs.declared.rewrap.WrappedRows.{WrappedRows}
use Rattle.textarea_lines.specs.declared.settings.LayoutSettings.{LayoutSettings}
use Rattle.textarea_lines.specs.declared.rewrap.Measured.{Measured}
use Rattle.textarea_lines.specs.Wrappings.{wrapping_for}
use Rattle.textarea_screen_map.specs.LineMarks.{AreMarksOf, MarkedLine}
use Rattle.textarea_screen_map.specs.Map.{IsRowCount, MapView}

-- there is a line; the stored size is the bytes and the number of the lines, and at most 2^48
pub record IsStored {Z : Type 0} (lines : List (String Z)) (size : ℕ) : Type 0 where
  pub some : 0 < length lines
  pub size_is : size ≡ size_of lines
  pub limit : size ≤ size_limit

-- the size of the lines after the splice
abbrev pub size_after : ℕ → Splice → ℕ
size_after size splice = if splice.inserts then size + weight splice.symbols else size - weight splice.symbols

-- the lines are stored, and the map has their right rows, wrapped by the settings
pub record HoldsRows {Z : Type 0} (settings : LayoutSettings) (lines : List (String Z)) (size : ℕ) (map : MapView) : Type 0 where
  pub stored : IsStored lines size
  pub wrapping_is : map.wrapping ≡ wrapping_for settings (length lines)
  pub text_layout : AreRowsOf map.wrapping (lines_of lines) map.rows

-- `found` is a position in the lines, with the number of bytes before it in its line
pub record IsPlaceAtByte {Z : Type 0} (lines : List (String Z)) (found : Pos) : Type 0 where
  pub place : IsPlaceOf (lines_of lines) (found.row, found.col)
  pub offset : found.offset ≡ offset_at (lines_of lines) (found.row, found.col)

-- all lines are wrapped again, with the next ticks: these rows can replace the current ones
pub record IsNextWrap {Z : Type 0} (count : ℕ) (lines : List (String Z)) (wraps : WrappedRows) : Type 0 where
  pub rows : AreRowsOf wraps.map.wrapping (lines_of lines) wraps.map.rows
  pub ticks : ticks_of wraps.map.rows ≡ ticks_after count (length lines)
  pub count_is : wraps.count ≡ count + length lines

-- The rows are stored. If there is a last measurement, it is true of the current lines. If there
-- are cached rows, they have the next ticks. The stored position is one of the lines, and the marks
-- are those of one of the lines.
pub record KeepsRows {Z : Type 0} (settings : LayoutSettings) (lines : List (String Z)) (size : ℕ) (map : MapView) (last : Option Measured) (count : ℕ) (next : Option WrappedRows) (found : Pos) (marks : MarkedLine) : Type 0 where
  pub contents : HoldsRows settings lines size map
  pub measured : IfSome last (λ measured. IsRowCount measured.wrapping (lines_of lines) measured.rows)
  pub cached : IfSome next (IsNextWrap count lines)
  pub place : IsPlaceAtByte lines found
  pub marked : AreMarksOf (lines_of lines) marks
