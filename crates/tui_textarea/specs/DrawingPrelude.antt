-- The names that clauses and proofs of this crate cite, re-exported together. Declares nothing.
pub use Rattle.std.specs.Option.{is_some, option_map}
pub use Rattle.std.specs.Result.{IfOk}
pub use Rattle.textarea_util.specs.Limit.{size_limit}
pub use Rattle.textarea_text.specs.Place.{IsPlace, Place}
pub use Rattle.textarea_text.specs.Size.{weight}
pub use Rattle.textarea_text.specs.Text.{Break, Character, Symbol, following, joined, lines, on_first}
pub use Rattle.textarea_screen.specs.Block.{BlockView}
pub use Rattle.textarea_screen.specs.Buffer.{Changes, KeepsOutside, area_of}
unfoldable pub use Rattle.textarea_screen.specs.Buffer.{cell_at}
pub use Rattle.textarea_screen.specs.Rect.{contains}
pub use Rattle.textarea_screen.specs.Text.{LineView}
pub use Rattle.textarea_screen.specs.declared.screen.alignment.Alignment.{Alignment}
pub use Rattle.textarea_screen.specs.declared.screen.alignment.Alignment.TheVariants.{Center, Left, Right}
pub use Rattle.textarea_screen.specs.declared.screen.buffer.Buffer.{Buffer}
pub use Rattle.textarea_screen.specs.declared.screen.rect.Rect.{Rect}
pub use Rattle.textarea_wrap.specs.Fitting.{HaveFittingClusters}
pub use Rattle.textarea_wrap.specs.Metrics.{line_number_columns}
pub use Rattle.textarea_wrap.specs.RowsView.{RowsView}
pub use Rattle.textarea_wrap.specs.declared.wrap.WrapMode.{WrapMode}
pub use Rattle.textarea_blocks.specs.Sums.{row_total, size_total}
pub use Rattle.textarea_screen_map.specs.LineRows.{AreRowsOf}
pub use Rattle.textarea_screen_map.specs.BorrowedLines.{BorrowedRows}
pub use Rattle.textarea_screen_map.specs.VisualRows.{greatest_column}
unfoldable pub use Rattle.textarea_screen_map.specs.VisualRows.{row_at}
pub use Rattle.textarea_screen_map.specs.VisualPositions.{HasNoZeroWidth, IsPlaceAt, IsVisualPosition, is_same_visual}
pub use Rattle.textarea_screen_map.specs.declared.layout.VisualPosition.{VisualPosition}
pub use Rattle.textarea_screen_map.specs.declared.layout.Wrapping.{Wrapping}
pub use Rattle.textarea_lines.specs.TextLayout.{TextAndLayout, Layout, at_width, layout_from_scratch, with_settings, keeps_wrapping, wrapping_of}
pub use Rattle.textarea_lines.specs.View.{IsPrepared, IsViewOf}
pub use Rattle.textarea_lines.specs.Wrappings.{is_wrapped, wrapping_for}
pub use Rattle.textarea_lines.specs.declared.settings.LayoutSettings.{LayoutSettings}
pub use Rattle.textarea_paint.specs.declared.paint.row.RowArea.{RowArea}
pub use Rattle.textarea_search.specs.Starts.{IsFound}
pub use Rattle.textarea_document.specs.Edits.{has_symbols}
pub use Rattle.textarea_document.specs.DocumentRows.{text_and_layout, with_inner_width}
pub use Rattle.textarea_document.specs.Selection.{selection, selection_by}
pub use Rattle.textarea_document.specs.DocumentState.{DocumentState}
pub use Rattle.textarea_view.specs.Caret.{caret_at, hit_column, hit_row, left_view}
pub use Rattle.textarea_view.specs.Cells.{AreLinesOf, AreLinesWith, frame_change}
pub use Rattle.textarea_view.specs.Frame.{FrameState, has_lines, number_width, shows_placeholder}
pub use Rattle.textarea_view.specs.FrameDrawn.{IsFrameDrawn}
pub use Rattle.textarea_view.specs.Hit.{IsHitBy, IsHitInRows, IsHitOf, IsHitWith, IsNear, greatest_at}
pub use Rattle.textarea_view.specs.Inner.{IsInner}
pub use Rattle.textarea_view.specs.Placements.{IsPlacement, IsPlacementInRows, IsPlacementWith, IsStart, HasRowView, Placement, cell_of_position, corner_caret, row_area, row_view, viewport_at}
pub use Rattle.textarea_view.specs.Scene.{HasPlaces, SceneState}
pub use Rattle.textarea_view.specs.SceneDrawn.{FillsArea, IsRowStart}
pub use Rattle.textarea_view.specs.Scrolled.{scrolled_by}
pub use Rattle.textarea_view.specs.Showing.{at_start, showing_row, showing_row_and_column}
pub use Rattle.textarea_view.specs.Viewport.{ViewportState, clamped}
pub use Rattle.textarea_view.specs.declared.look.CustomHighlight.{CustomHighlight}
pub use Rattle.textarea_view.specs.declared.row_view.RowView.{RowView}
pub use Rattle.tui_textarea.specs.CaretHit.{IsCursorAtCaret, IsCaretHit}
pub use Rattle.tui_textarea.specs.DrawnFrame.{WidgetState, frame_of, widget_state, scene_of}
pub use Rattle.tui_textarea.specs.Hit.{IsHitTest, IsNearestVisible, IsLastArea, IsReached}
pub use Rattle.tui_textarea.specs.Rendered.{IsDrawn, IsWidgetRendered, at_inner_width, drawn_into}
pub use Rattle.tui_textarea.specs.CaretVisible.{HasRoomForCaret, HasWidthForCaret, HasWidthForRows, IsCaretVisible, number_columns}
pub use Rattle.tui_textarea.specs.DrawingState.{DrawingState, for_other_lines, new_drawing, with_look, with_viewport}
pub use Rattle.tui_textarea.specs.DrawingSteps.{IsDrawnAt}
