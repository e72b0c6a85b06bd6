-- The names that contracts of this crate use, re-exported. It declares nothing.
pub use Rattle.textarea_util.specs.Limit.{size_limit}
pub use Rattle.textarea_util.specs.Replaced.{replaced}
pub use Rattle.textarea_text.specs.Place.{IsPlaceOf, Place}
pub use Rattle.textarea_text.specs.Size.{size_of, weight}
pub use Rattle.textarea_text.specs.Text.{following, lines_of}
pub use Rattle.textarea_wrap.specs.Columns.{display_end_column}
pub use Rattle.textarea_wrap.specs.Fitting.{HaveFittingClusters}
pub use Rattle.textarea_wrap.specs.RowsView.{RowsView}
pub use Rattle.textarea_blocks.specs.Blocks.{IsEdge, all_rows}
pub use Rattle.textarea_blocks.specs.Sums.{IsWithinLimit, marks_at, range_at, ranges_at, row_total, size_total}
pub use Rattle.textarea_screen_map.specs.BorrowedLines.{AreRowsRight, borrowed_rows}
pub use Rattle.textarea_screen_map.specs.LineRows.{AreRowsOf, ticks_after, ticks_of, with_tab_len}
pub use Rattle.textarea_screen_map.specs.LineMarks.{AreMarks, AreMarksOf, IsMark, IsSameBefore, line_start}
pub use Rattle.textarea_screen_map.specs.Map.{IsRowCount}
pub use Rattle.textarea_screen_map.specs.Prepared.{CanPutRows, HasRoom, IsPreparedFor, rows_in, rows_with}
pub use Rattle.textarea_screen_map.specs.RowTexts.{HasFrontOfLine, IsRowText, row_of_texts}
pub use Rattle.textarea_screen_map.specs.VisualPositions.{HasNoZeroWidth, IsAbove, IsBelow, IsInFirstRow, IsInLastRow, IsPlaceAt, IsPlaceNear, IsVisualPosition, IsVisualUpTo, LeadsTo, over_all_lines}
pub use Rattle.textarea_screen_map.specs.VisualRows.{column_at, greatest_column, reachable_text, row_at, row_width}
pub use Rattle.textarea_screen_map.specs.declared.layout.VisualPosition.{VisualPosition}
pub use Rattle.textarea_screen_map.specs.declared.layout.Wrapping.{Wrapping}
