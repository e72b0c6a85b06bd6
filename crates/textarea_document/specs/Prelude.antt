-- The names that clauses and proofs of this crate cite, re-exported together. Declares nothing.
pub use Rattle.std.specs.Duration.{as_nanos}
pub use Rattle.std.specs.List.{AllZip, cons_option}
pub use Rattle.std.specs.Option.{IfSome, MatchOption, is_some}
pub use Rattle.std.specs.Result.{IfOk, IsOk, OnErr, OnOk}
pub use Rattle.std.specs.Str.{IsUtf8}
unfoldable pub use Rattle.std.specs.Str.{chars}
pub use Rattle.std.specs.String.{string_len}
pub use Rattle.textarea_util.specs.Limit.{size_limit}
pub use Rattle.textarea_text.specs.Offset.{offset_at}
pub use Rattle.textarea_text.specs.Paragraphs.{is_earlier_paragraph_start, is_empty_line, is_later_paragraph_start, is_paragraph_start, next_paragraph_start, previous_paragraph_start}
pub use Rattle.textarea_text.specs.Between.{clip, symbols_between}
pub use Rattle.textarea_text.specs.Place.{IsBefore, IsPlace, IsPlaceOf, IsSymbolBefore, IsUpTo, Place, OccursAt, end, index_of, is_before, is_same_place, last_row, line_end, line_of, place_of}
pub use Rattle.textarea_text.specs.Size.{size_of}
pub use Rattle.textarea_text.specs.Splice.{CanApply, Fits, Splice, IsTextBefore, applied, applied_all, inverse, place_after, place_before}
pub use Rattle.textarea_text.specs.Text.{Break, Character, Symbol, characters, characters_of, joined, lines, lines_of, symbol_in, text_of}
pub use Rattle.textarea_text.specs.Words.{next_word_last}
unfoldable pub use Rattle.textarea_text.specs.Words.{class_of}
pub use Rattle.textarea_history.specs.Edit.{IsWellFormed, Stored, inserts_of, symbols_of}
pub use Rattle.textarea_history.specs.Groups.{group_count, grouped_before, grouped_first, is_grouped, is_open}
pub use Rattle.textarea_history.specs.HistoryLaw.{IsSame, times}
pub use Rattle.textarea_history.specs.Log.{Log, Logged, appended_log, done_groups, done_joined, empty_log, group_begun, group_closed, group_ended, group_forgotten, group_opened, grown, is_outgrown}
pub use Rattle.textarea_history.specs.Log.{joined_log, joins, redone_log, remaining_done, newest, newest_group, next, next_group, recorded, undone_log}
pub use Rattle.textarea_history.specs.Run.{merged}
pub use Rattle.textarea_history.specs.declared.edit.EditKind.{EditKind}
pub use Rattle.textarea_data.specs.declared.cursor.CursorMove.{CursorMove}
pub use Rattle.textarea_data.specs.declared.cursor.CursorMove.TheVariants.{Back, Bottom, End, Head, Jump, ParagraphBack, ParagraphForward, WordBack, WordEnd, WordForward}
pub use Rattle.textarea_data.specs.declared.range.AtomicDeleteDirection.{AtomicDeleteDirection}
pub use Rattle.textarea_data.specs.declared.range.AtomicDeleteDirection.TheVariants.{Backward, Forward}
pub use Rattle.textarea_data.specs.declared.range.AtomicRange.{AtomicRange}
pub use Rattle.textarea_ranges.specs.Lookup.{AreApart, IsBeside, IsRangeAtPlace, IsInside, TakesRange, Overlaps, TakesWhole, range_at_place, range_around, moved_out, range_end, range_start, widened}
pub use Rattle.textarea_ranges.specs.Moved.{CoversTheSame, DisturbsBy, IsMovable, moved_by, moved_range}
unfoldable pub use Rattle.textarea_ranges.specs.Moved.{moved_ranges}
pub use Rattle.textarea_ranges.specs.Order.{AreInOrder}
pub use Rattle.textarea_ranges.specs.Rejected.{AreRejected}
pub use Rattle.textarea_ranges.specs.Valid.{AreValid, IsRangeOfLine}
pub use Rattle.textarea_blocks.specs.Sums.{row_total}
pub use Rattle.textarea_lines.specs.AtOnce.{IsChangedFrom, WrapsAtOnce, applied_each, numbered, wrapped_once}
pub use Rattle.textarea_lines.specs.LineWraps.{WrapsForSettings, WrapsForSplice, WrapsForWidth}
pub use Rattle.textarea_lines.specs.TextLayout.{TextAndLayout, Layout, all_wrapped, applied_to, at_width, is_wrapped_at, layout_from_scratch, with_settings, keeps_wrapping, wrapping_at, wrapping_of}
pub use Rattle.textarea_lines.specs.TextRows.{OfRows}
pub use Rattle.textarea_lines.specs.View.{IsPrepared, IsViewOf}
pub use Rattle.textarea_lines.specs.Wrappings.{is_same_wrapping, wrapping_for}
pub use Rattle.textarea_lines.specs.declared.settings.LayoutSettings.{LayoutSettings}
pub use Rattle.textarea_document.specs.DocumentWraps.{SplicedAtOnce, SplicedBy, WrapsAll, WrapsBySettings, WrapsByWidth, SplicesBy}
pub use Rattle.textarea_document.specs.Edits.{Insert, HasEffect, IsSymbolAfter, Remove, RemoveBefore, RemoveAfter, RemoveBreak, EditStep, break_inserted, break_removal, break_removed}
pub use Rattle.textarea_document.specs.Edits.{character_inserted, cursor_index, range_at_cursor, range_before, range_after, cursor_range_removed, insertion, insertion_place, is_at_end, is_at_start}
pub use Rattle.textarea_document.specs.Edits.{has_symbols, nothing_inserted, removal, splice_of_step, stepped, symbol_removal, symbol_removed_before, symbol_removed_after, symbols_inserted}
pub use Rattle.textarea_document.specs.Edits.{removed_symbols}
unfoldable pub use Rattle.textarea_document.specs.Edits.{between_removed, removed_before, removed_after}
pub use Rattle.textarea_document.specs.RangesOverSplices.{AllStayOrAreDropped, AllStemFrom, SplitNoRange, RangesFollowPast, RangesFollowSplices, RangesStayWhole, IsDroppedBy, StemsFrom, carried_range, ranges_over}
pub use Rattle.textarea_document.specs.Covered.{CoversNoMore}
pub use Rattle.textarea_document.specs.DocumentLaw.{RemembersBefore, RestoresAll, RestoresDocument, ListsFit, ranges_before_group}
pub use Rattle.textarea_document.specs.Outcomes.{after_change, after_edit, after_move, after_redo, after_redo_by, edit_redone, edit_undone, past_ranges_after, run_ended, unanchored, after_undo, after_undo_by}
pub use Rattle.textarea_document.specs.Outcomes.{lines_numbered, made_at_once, times_at_once, wrapped_at_once}
unfoldable pub use Rattle.textarea_document.specs.Outcomes.{layout_at_once}
pub use Rattle.textarea_document.specs.Ranges.{SplitsNoRange, SplitsNoRangeBy, accepted, anchor_out, anchored, with_ranges, normalized, range_removed, ranges_forgotten, unless_empty}
pub use Rattle.textarea_document.specs.DocumentRows.{text_and_layout, with_inner_width, with_layout_settings}
unfoldable pub use Rattle.textarea_document.specs.DocumentRows.{HasRowsAt, IsAboveCursor, IsBelowCursor}
pub use Rattle.textarea_document.specs.Selection.{is_selected, selected_removed, selected_symbols, selection, selection_end, selection_start}
pub use Rattle.textarea_document.specs.ChangesLead.{ChangesLead}
pub use Rattle.textarea_document.specs.Sound.{IsSound, IsSoundInside}
pub use Rattle.textarea_document.specs.PastRanges.{AllBefore, ArePastRanges, IsValidList, PastRanges, no_past_ranges, past_ranges_set, ranges_before_newest, ranges_before_next, ranges_or, ranges_to_remember}
pub use Rattle.textarea_document.specs.PastRanges.{texts_ahead, texts_back, texts_before, with_newest}
pub use Rattle.textarea_document.specs.DocumentState.{DocumentState, changes_taken, document_of, fresh_document, history_forgotten, lines_replaced, logged, undo_ranges_set, new_document, with_changes_after}
pub use Rattle.textarea_document.specs.Changes.{ChangeView, LoggedChanges, change_of, change_view, changed_by_all, inserted_lines, line_changes, no_changes, place_from_unit, place_in_unit, splice_changes}
pub use Rattle.textarea_document.specs.Changes.{splices_changes, unit_count, whole_change, with_more, with_splice}
unfoldable pub use Rattle.textarea_document.specs.Changes.{changed_by}
pub use Rattle.textarea_change.specs.declared.change.ChangeUnit.{ChangeUnit}
pub use Rattle.textarea_change.specs.declared.change.ChangeUnit.TheVariants.{Bytes, Characters, Utf16}
pub use Rattle.textarea_document.specs.Target.{IsDocumentTarget, first_word_end, place_or, is_later_word_row, next_head, next_place, next_word_row, paragraph_back, paragraph_forward, previous_end}
pub use Rattle.textarea_document.specs.Target.{previous_place, target, word_back, word_end, word_end_after, word_forward, word_start_before}
pub use Rattle.textarea_document.specs.Splices.{redo_splices, undo_splices}
