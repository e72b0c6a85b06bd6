-- The names that contracts of this crate use, re-exported. It declares nothing.
pub use Rattle.ucd_table.specs.Rows.{in_ranges}
pub use Rattle.unicode_segmentation.specs.Grapheme.{graphemes}
pub use Rattle.textarea_screen.specs.Block.{block_view}
pub use Rattle.textarea_screen.specs.Buffer.{Changes, HasNone, KeepsOutside, area_of}
pub use Rattle.textarea_screen.specs.Cell.{with_symbol}
pub use Rattle.textarea_screen.specs.Inset.{inset_of}
pub use Rattle.textarea_screen.specs.Rect.{contains, is_in_row}
pub use Rattle.textarea_screen.specs.Style.{empty_style}
pub use Rattle.textarea_screen.specs.Text.{line_view}
pub use Rattle.textarea_screen.specs.declared.screen.cell.TheConstants.{INLINE_BYTES}
pub use Rattle.textarea_paint.specs.Block.{block_cell, corner_changes, in_area, in_turn, side_changes, title_change}
pub use Rattle.textarea_paint.specs.Cells.{IsAnyPen, IsColumnWithin, IsPenAt, is_in_cells, is_room_at, place_from, placed_at, row_change}
pub use Rattle.textarea_paint.specs.Clusters.{AreInline, Cluster, in_style, letter_clusters, plain_clusters, row_clusters, text_clusters}
pub use Rattle.textarea_paint.specs.Columns.{columns_of}
pub use Rattle.textarea_paint.specs.LineClusters.{run_clusters, styled_cluster}
pub use Rattle.textarea_paint.specs.Plain.{IsPrintable, begins_plain, is_printable, plain_count, singles}
pub use Rattle.textarea_paint.specs.Row.{IsLongestFront, clusters_width, fitting, is_no_wider, line_offset, row_cell}
pub use Rattle.textarea_paint.specs.Simple.{begins_apart, early_ranges, is_flag_half, is_simple, late_ranges}
