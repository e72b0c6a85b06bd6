-- The names that contracts and proofs of this crate use. Declares nothing.
pub use Rattle.std.specs.List.{AllByRecursion, cons_option, slice_get}
pub use Rattle.std.specs.declared.alloc.Global.{Global}
pub use Rattle.std.specs.Cmp.{IsStrictWeakOrder, nat_cmp_total, on_total, then_total}
pub use Rattle.std.specs.List.Sorted.{IsPartitionPoint, IsPartitionedBy, IsSortedBy, IsStableBy, ties}
pub use Rattle.textarea_util.specs.Limit.{size_limit}
pub use Rattle.textarea_text.specs.PlacesAfterSplice.{is_up_to, shifted}
pub use Rattle.textarea_text.specs.Place.{IsBefore, IsPlaceOf, IsUpTo, Place, end, line_of}
pub use Rattle.textarea_text.specs.Splice.{Fits, Splice, applied, place_after, place_before}
pub use Rattle.textarea_text.specs.Text.{Break, Character, Symbol, characters, characters_of, following, joined, leading, lines, lines_of, on_first}
pub use Rattle.textarea_data.specs.declared.range.AtomicCursorBias.{AtomicCursorBias}
pub use Rattle.textarea_data.specs.declared.range.AtomicCursorBias.TheVariants.{Backward, Forward}
pub use Rattle.textarea_data.specs.declared.range.AtomicDeleteDirection.{AtomicDeleteDirection}
pub use Rattle.textarea_data.specs.declared.range.AtomicRange.{AtomicRange}
pub use Rattle.textarea_data.specs.declared.range.AtomicRangeRejectReason.{AtomicRangeRejectReason}
pub use Rattle.textarea_data.specs.declared.range.AtomicRangeRejectReason.TheVariants.{ColumnOutOfBounds, Empty, OverlapsPrevious, RowOutOfBounds}
pub use Rattle.textarea_data.specs.declared.range.RejectedAtomicRange.{RejectedAtomicRange}
pub use Rattle.textarea_ranges.specs.Lookup.{AreApart, IsBeside, IsRangeAtPlace, IsInside, IsWidened, TakesRange, Overlaps, TakesWhole, has_ended, range_edge, range_edge_or}
pub use Rattle.textarea_ranges.specs.Lookup.{range_at_place, range_around, is_range_at_place, is_inside, moved_out, passes_end, range_end, range_start, widened}
pub use Rattle.textarea_ranges.specs.Moved.{CoversTheSame, Disturbs, DisturbsBy, IsMovable, covered_characters, moved_by, moved_range, shifted_range}
unfoldable pub use Rattle.textarea_ranges.specs.Moved.{moved_ranges}
pub use Rattle.textarea_ranges.specs.Order.{AreInOrder, IsInOrder, in_order, insert_among, is_range_before}
pub use Rattle.textarea_ranges.specs.Rejected.{AreAccepted, AreRejected, free_from, last_valid, reason, rejected_after, rejected_of, with_reason}
pub use Rattle.textarea_ranges.specs.Valid.{AreDisjoint, AreValid, IsRangeOfLine}
