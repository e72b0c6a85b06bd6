-- The names that contracts and proofs of this crate use. Declares nothing.
pub use Rattle.std.specs.Char.{is_whitespace}
pub use Rattle.std.specs.Fmt.{decimal}
pub use Rattle.std.specs.List.{All, AllByRecursion, concat, flat_map, list_all, range_with_len}
pub use Rattle.std.specs.Result.{IfOk, IsOk}
pub use Rattle.std.specs.Str.{IsCharBoundary, IsUtf8}
unfoldable pub use Rattle.std.specs.Str.{chars}
pub use Rattle.std.specs.Str.Iter.{chars_rest}
pub use Rattle.textarea_util.specs.Limit.{size_limit}
pub use Rattle.textarea_wrap.specs.Columns.{IsVisible, IsVisibleCount, column_after, end_column, next_stop, plain_width, stretch_width}
pub use Rattle.textarea_wrap.specs.Fitting.{AreFittingClusters, HasFittingClusters, IsFittingCluster, full_width}
pub use Rattle.textarea_wrap.specs.Marks.{AreMarkedUntil, mark_at, range_count}
unfoldable pub use Rattle.textarea_wrap.specs.Marks.{marks_of}
pub use Rattle.textarea_wrap.specs.Metrics.{columns_for_rows, line_number_columns}
pub use Rattle.textarea_wrap.specs.RowsView.{RowsView}
pub use Rattle.textarea_wrap.specs.Units.{is_blank, line_units, units_of_segment}
pub use Rattle.textarea_wrap.specs.WordWalk.{IsWordWalk}
pub use Rattle.textarea_wrap.specs.WrapResult.{AreRowTexts, HasFewestRows, IsRowRange, IsWrapped, IsWrapping, TakesOneRow}
pub use Rattle.textarea_wrap.specs.WrapRules.{AreBlocks, AreFittingBlocks, AreFittingRows, AreGlyphRows, FitsAfter, HangsOver, HasFewestGlyphRows, HasFewestWordRows, IsBlankCluster, IsBlock, IsFittingBlock, IsFittingRow}
pub use Rattle.textarea_wrap.specs.WrapRules.{IsFittingStretch, IsGlyphRow, IsGlyphWrapping, IsWordWrapping, Stretch, UnitBlock, begins_with_content, ranges_from, rows_of, shared, split, stretches_of, units_of}
pub use Rattle.textarea_wrap.specs.declared.wrap.WrapMode.{WrapMode}
