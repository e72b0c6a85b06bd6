-- The names that contracts of this crate use, re-exported. It declares nothing.
pub use Rattle.textarea_util.specs.Limit.{size_limit}
pub use Rattle.textarea_text.specs.Offset.{offset_at}
pub use Rattle.textarea_text.specs.Place.{IsPlace, Place}
pub use Rattle.textarea_text.specs.Size.{size_of, weight}
pub use Rattle.textarea_text.specs.Splice.{CanApply, Fits, Splice, applied}
pub use Rattle.textarea_text.specs.Text.{Symbol, lines, lines_of, text_of}
pub use Rattle.textarea_text.specs.Touched.{breaks_of, new_line_count, replaced_line_count}
pub use Rattle.textarea_wrap.specs.RowsView.{RowsView}
pub use Rattle.textarea_blocks.specs.Blocks.{all_rows}
pub use Rattle.textarea_blocks.specs.Sums.{row_total}
pub use Rattle.textarea_screen_map.specs.BorrowedLines.{BorrowedRows}
pub use Rattle.textarea_screen_map.specs.LineRows.{AreRowsOf, ticks_after, ticks_of}
pub use Rattle.textarea_screen_map.specs.Map.{IsRowCount}
pub use Rattle.textarea_screen_map.specs.VisualPositions.{IsVisualPosition}
pub use Rattle.textarea_lines.specs.AtOnce.{IsChangedFrom, WrapsAtOnce, applied_each, numbered, wrapped_once}
pub use Rattle.textarea_lines.specs.LineWraps.{WrapsAllLines, WrapsForSettings, WrapsForSplice, WrapsForSplices, WrapsForWidth}
pub use Rattle.textarea_lines.specs.Replacing.{AreReadyRows, CanReplace}
pub use Rattle.textarea_lines.specs.Stored.{size_after}
pub use Rattle.textarea_lines.specs.TextLayout.{Origins, TextAndLayout, applied_to, at_width, count_after, is_wrapped_at, keeps_wrapping, layout_from_scratch, lines_after, lines_spliced, origins_of, origins_spliced, with_origins, with_replacement, with_settings, wrapping_at, wrapping_of}
pub use Rattle.textarea_lines.specs.TextRows.{CanStayWhole, HasLayout, HasWholeLine, IsFoundAbove, IsFoundBelow, IsRowCountAt, OfRows}
pub use Rattle.textarea_lines.specs.View.{IsPrepared, IsRewrappedIfOther, IsViewOf, IsWholeWrap}
pub use Rattle.textarea_lines.specs.Wrappings.{is_wrapped}
pub use Rattle.textarea_lines.specs.declared.settings.LayoutSettings.{LayoutSettings}
