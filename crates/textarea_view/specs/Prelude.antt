-- The names that contracts and proofs of this crate use, re-exported. It declares nothing.
pub use Rattle.std.specs.Option.{option_map, option_map_or}
pub use Rattle.std.specs.Result.{OnErr, OnOk}
pub use Rattle.textarea_text.specs.Place.{IsPlaceOf, Place}
pub use Rattle.textarea_text.specs.Text.{characters_of, lines_of}
pub use Rattle.textarea_screen.specs.Block.{BlockView, block_view}
pub use Rattle.textarea_screen.specs.Buffer.{Changes, KeepsOutside, area_of}
pub use Rattle.textarea_screen.specs.Cell.{CellView}
pub use Rattle.textarea_screen.specs.Rect.{contains, is_in_row}
pub use Rattle.textarea_screen.specs.Style.{patched}
pub use Rattle.textarea_screen.specs.Text.{ContentView, LineView, SpanView, TextView, content_view, line_view, span_view, text_view, text_bytes}
pub use Rattle.textarea_screen.specs.Text.ContentView.{BorrowedBytes}
pub use Rattle.textarea_screen.specs.declared.screen.alignment.Alignment.{Alignment}
pub use Rattle.textarea_screen.specs.declared.screen.alignment.Alignment.TheVariants.{Center, Left, Right}
pub use Rattle.textarea_screen.specs.declared.screen.buffer.Buffer.{Buffer}
pub use Rattle.textarea_screen.specs.declared.screen.rect.Rect.{Rect}
pub use Rattle.textarea_screen.specs.declared.screen.style.Style.{Style}
pub use Rattle.textarea_screen.specs.declared.screen.text.Span.{Span}
pub use Rattle.textarea_screen.specs.declared.screen.text.SpanText.{SpanText}
pub use Rattle.textarea_screen.specs.declared.screen.text.SpanText.TheVariants.{Borrowed, Owned}
pub use Rattle.textarea_wrap.specs.RowsView.{RowsView}
pub use Rattle.textarea_blocks.specs.Sums.{row_total}
pub use Rattle.textarea_screen_map.specs.LineRows.{AreRowsOf}
pub use Rattle.textarea_screen_map.specs.VisualRows.{VisualRow, column_at}
unfoldable pub use Rattle.textarea_screen_map.specs.VisualRows.{row_at, visual_rows}
pub use Rattle.textarea_screen_map.specs.VisualPositions.{IsInRow, IsVisualPosition}
pub use Rattle.textarea_screen_map.specs.RowTexts.{row_of_texts}
pub use Rattle.textarea_screen_map.specs.declared.layout.VisualPosition.{VisualPosition}
pub use Rattle.textarea_screen_map.specs.declared.layout.Wrapping.{Wrapping}
pub use Rattle.textarea_highlight.specs.Highlights.{Highlights, Range, plain_row, with_base, with_cursor_line, with_number, with_segment}
pub use Rattle.textarea_highlight.specs.Row.{ShowsRow}
pub use Rattle.textarea_highlight.specs.declared.highlight.highlighter.CursorCellRender.{CursorCellRender}
pub use Rattle.textarea_highlight.specs.declared.highlight.highlighter.CursorCellRender.TheVariants.{Draw, Hidden}
unfoldable pub use Rattle.textarea_search.specs.Matches.{match_spans}
unfoldable pub use Rattle.textarea_paint.specs.Block.{block_cell}
unfoldable pub use Rattle.textarea_paint.specs.Cells.{row_change}
pub use Rattle.textarea_paint.specs.Clusters.{AreInline, content_bytes, row_clusters, span_clusters}
pub use Rattle.textarea_paint.specs.Row.{cells_of_row, placed_row, line_offset}
unfoldable pub use Rattle.textarea_paint.specs.Row.{row_cell}
pub use Rattle.textarea_paint.specs.declared.paint.row.RowArea.{RowArea}
pub use Rattle.textarea_view.specs.Caret.{caret_at, cell_of, hit_column, hit_row, left_view, offset_view}
pub use Rattle.textarea_view.specs.Cells.{AreLinesOf, AreLinesWith, block_change, frame_change, inside_change, inside_with, drawn_lines, placeholder_change, rows_change, style_change}
pub use Rattle.textarea_view.specs.Frame.{FrameState, number_width, shows_placeholder}
pub use Rattle.textarea_view.specs.FrameDrawn.{IsFrameDrawn}
pub use Rattle.textarea_view.specs.Hit.{IsHitBy, IsHitInRows, IsHitOf, IsHitWith}
pub use Rattle.textarea_view.specs.Inner.{IsInner}
pub use Rattle.textarea_view.specs.Measure.{chrome_of, measure_of, visible_row_count, saturated_u16, width_inside}
pub use Rattle.textarea_view.specs.Outcomes.{plain_lines, with_max_rows, with_min_rows, with_placeholder_style, with_placeholder_text}
pub use Rattle.textarea_view.specs.Placements.{IsPlacement, IsPlacementInRows, IsStart, HasRowView, Placement, cell_of_position, corner_caret, placed_at_corner, row_area, row_view, viewport_at}
pub use Rattle.textarea_view.specs.Placeholder.{AreLinesInline, after_cursor, blank, cell_of_line, in_placeholder_style, borrowed_line, borrowed_span, placeholder_lines}
pub use Rattle.textarea_view.specs.SceneRows.{AreMatchesOf, KnownMatches, byte_place, byte_range, cursor_cell, from_in, highlights_of, holds_place, matches_in, number_digits, with_row_number}
pub use Rattle.textarea_view.specs.SceneRows.{segment_in, searched_lines, to_in, with_cursor, with_custom, with_customs, with_search_matches, with_line_number, with_match, with_range_segment}
pub use Rattle.textarea_view.specs.SceneRows.{with_selected, with_selected_segment}
unfoldable pub use Rattle.textarea_view.specs.SceneRows.{row_highlights}
pub use Rattle.textarea_view.specs.Scene.{HasPlaces, SceneState}
pub use Rattle.textarea_view.specs.SceneDrawn.{AreDisplayed, AreNumbers, DrawnTo, FillsArea, IsDrawnAs, IsRowStart, lines_change, rows_above_end}
pub use Rattle.textarea_view.specs.Scrolled.{scrolled, scrolled_by, scrolled_viewport}
pub use Rattle.textarea_view.specs.Showing.{at_start, column_to_show, first_visible, showing_row, showing_row_and_column}
pub use Rattle.textarea_view.specs.SurroundState.{AreBounds, first_bytes, new_surround, style_with_lines}
pub use Rattle.textarea_view.specs.Viewport.{ViewportState, clamped, initial_viewport, last_visible}
pub use Rattle.textarea_view.specs.declared.frame.Frame.TheInside.{Inside}
pub use Rattle.textarea_view.specs.declared.look.Look.{Look}
pub use Rattle.textarea_view.specs.declared.row_view.RowView.{RowView}
