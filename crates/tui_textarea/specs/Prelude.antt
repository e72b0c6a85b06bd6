-- The names that contracts of this crate use, re-exported. It declares nothing.
pub use Rattle.textarea_util.specs.Limit.{size_limit}
pub use Rattle.textarea_text.specs.Between.{clip}
pub use Rattle.textarea_text.specs.Fragment.{fragment_symbols, pasted_symbols, fragment_text, without_last_break}
pub use Rattle.textarea_text.specs.Place.{IsPlace, Place, index_of, place_of}
pub use Rattle.textarea_text.specs.Size.{size_of, weight}
pub use Rattle.textarea_text.specs.Splice.{CanApply, Fits, Splice}
pub use Rattle.textarea_text.specs.Text.{Character, lines, lines_of, text_of}
pub use Rattle.textarea_history.specs.Log.{done_groups, newest, next}
pub use Rattle.textarea_data.specs.declared.cursor.CursorMove.{CursorMove}
pub use Rattle.textarea_data.specs.declared.cursor.CursorMove.TheVariants.{Down}
pub use Rattle.textarea_data.specs.declared.scroll.Scrolling.{Scrolling}
pub use Rattle.textarea_ranges.specs.Lookup.{range_around}
pub use Rattle.textarea_ranges.specs.Order.{AreInOrder}
pub use Rattle.textarea_ranges.specs.Rejected.{AreRejected}
pub use Rattle.textarea_ranges.specs.Valid.{AreValid}
pub use Rattle.textarea_screen.specs.Block.{block_view}
pub use Rattle.textarea_screen.specs.Buffer.{KeepsOutside}
pub use Rattle.textarea_screen.specs.Rect.{contains}
pub use Rattle.textarea_screen.specs.Text.{text_view}
pub use Rattle.textarea_screen.specs.declared.screen.alignment.Alignment.TheVariants.{Left}
pub use Rattle.textarea_screen.specs.declared.screen.buffer.Buffer.{Buffer}
pub use Rattle.textarea_screen.specs.declared.screen.rect.Rect.{Rect}
pub use Rattle.textarea_screen.specs.declared.screen.style.Style.{Style}
pub use Rattle.textarea_blocks.specs.Sums.{row_total}
pub use Rattle.textarea_screen_map.specs.BorrowedLines.{BorrowedRows}
pub use Rattle.textarea_lines.specs.LineWraps.{map_width}
pub use Rattle.textarea_lines.specs.View.{IsViewOf}
pub use Rattle.textarea_search.specs.PatternErrors.{IsErrorFor, IsNoSyntaxError, IsOwnFailure, IsPatternFailure}
pub use Rattle.textarea_search.specs.PlainTexts.{text_pattern}
pub use Rattle.textarea_document.specs.Covered.{CoversNoMore}
pub use Rattle.textarea_document.specs.DocumentLaw.{ListsFit, RestoresAll, RestoresDocument}
pub use Rattle.textarea_document.specs.DocumentRows.{text_and_layout}
pub use Rattle.textarea_document.specs.ChangesLead.{ChangesLead}
pub use Rattle.textarea_document.specs.Changes.{change_view}
pub use Rattle.textarea_document.specs.DocumentState.{changes_taken, history_forgotten, lines_replaced, undo_ranges_set}
pub use Rattle.textarea_document.specs.DocumentWraps.{SplicedBy, WrapsNothing}
pub use Rattle.textarea_document.specs.Edits.{has_symbols, range_at_cursor}
pub use Rattle.textarea_document.specs.Outcomes.{after_edit, after_redo, after_undo, run_ended}
pub use Rattle.textarea_document.specs.RangesOverSplices.{RangesStayWhole, SplitNoRange}
pub use Rattle.textarea_document.specs.Selection.{is_selected, selection}
pub use Rattle.textarea_document.specs.Sound.{IsSound}
pub use Rattle.textarea_view.specs.Frame.{shows_placeholder}
pub use Rattle.textarea_view.specs.Measure.{saturated_u16, width_inside}
pub use Rattle.textarea_view.specs.Outcomes.{with_max_rows, with_min_rows, with_placeholder_style, with_placeholder_text}
pub use Rattle.textarea_view.specs.Placements.{cell_of_position}
pub use Rattle.textarea_view.specs.SurroundState.{AreBounds, first_bytes, style_with_lines}
pub use Rattle.textarea_data.specs.declared.measure.TextAreaMeasure.{TextAreaMeasure}
pub use Rattle.textarea_calls.specs.Edits.{edits}
pub use Rattle.textarea_calls.specs.Possible.{CanBeMade}
pub use Rattle.textarea_calls.specs.declared.action.Action.{Action}
pub use Rattle.textarea_calls.specs.declared.answer.Answer.{Answer}
pub use Rattle.textarea_calls.specs.declared.call.Call.{Call}
pub use Rattle.tui_textarea.specs.CallResults.{CallResult, Flag}
pub use Rattle.tui_textarea.specs.CallSplices.{OfSplicesOutOfMemory, splices_of}
pub use Rattle.tui_textarea.specs.CallWraps.{WrapsByCall}
pub use Rattle.tui_textarea.specs.CaretHit.{IsCaretHit, IsCursorAtCaret}
pub use Rattle.tui_textarea.specs.CaretVisible.{IsCaretVisible}
pub use Rattle.tui_textarea.specs.ChangesOverCalls.{ChangesFollow, ChangesOfRun, SetsLog, taken_by}
pub use Rattle.tui_textarea.specs.Drawing.{IsRendered, widget_of}
pub use Rattle.tui_textarea.specs.DrawnFrame.{frame_of}
pub use Rattle.tui_textarea.specs.Edits.{breaks_line, char_inserted, char_or_break_inserted, inserts_tab, inserts_text}
pub use Rattle.tui_textarea.specs.Edits.{line_broken, newline_inserted, spaces_to_stop, str_inserted, symbols_or_none_inserted, tab_inserted, tab_or_spaces_inserted}
pub use Rattle.tui_textarea.specs.Frames.{HasLayoutFor}
pub use Rattle.tui_textarea.specs.GroupLaw.{IsEditUndoneAtOnce, IsInsertion, IsReplacement, IsReplacementUndoneAtOnce, IsUndoneAtOnce, MakesFewEdits}
pub use Rattle.tui_textarea.specs.Grouping.{call_begun, call_ended, closed_if, opens_group, typing_ended, undo_group_begun, undo_group_ended, with_group}
pub use Rattle.tui_textarea.specs.Edits.{fitting_spaces}
pub use Rattle.tui_textarea.specs.Fitting.{fitting_selection}
pub use Rattle.tui_textarea.specs.Units.{IsSettled, settled, whole_end, whole_start}
pub use Rattle.tui_textarea.specs.Guards.{admitted, admitted_between, admitted_for, admitted_over_selection, bars_break, bars_character, bars_duplicate, bars_each, bars_indent, bars_lines, bars_tab}
pub use Rattle.tui_textarea.specs.Guards.{SetsLines, has_several_lines, is_editable, other_lines_set, removable_range, replaces_whole, single_line_set, unless_read_only, whole_range_replaced}
pub use Rattle.tui_textarea.specs.Hit.{IsHitTest, IsLastArea, IsWithoutCell}
pub use Rattle.tui_textarea.specs.Input.{ActMayRunOutOfMemory, IsAfterAction, IsInputOutOfMemory, action_flag, asked_by, asked_without_shortcuts}
pub use Rattle.tui_textarea.specs.LayoutCalls.{indent_of}
pub use Rattle.tui_textarea.specs.Measure.{IsMeasured, IsMeasuredAround, reads_rows, with_surround}
pub use Rattle.tui_textarea.specs.Moves.{IsMoved, gone_to, IsMovedTo, IsMovedWith, IsScrolled, IsScrolledWith, IsTarget, anchor_with, bias_of}
pub use Rattle.tui_textarea.specs.Outcomes.{IsAfterCall, IsAfterOutOfMemory, IsResultOf, RanOutOfMemory}
pub use Rattle.tui_textarea.specs.Patterns.{IsNewFailure}
pub use Rattle.tui_textarea.specs.Ranges.{atomic_range_removed, whole_range_removed, cursor_normalized, ranges_accepted, ranges_cleared}
pub use Rattle.tui_textarea.specs.RangesOverCalls.{IsUndoOrRedo, RangesFollowCall, RangesOfRun, SetsRanges}
pub use Rattle.tui_textarea.specs.Removals.{back_to_word_removed, break_before_removed, has_after, has_ahead, has_before, has_break_before, has_line_after, has_line_before}
pub use Rattle.tui_textarea.specs.Removals.{has_word_after, has_word_before, index_ahead, line_end_removed, line_head_removed, on_to_word_end_removed, removes_or}
pub use Rattle.tui_textarea.specs.Removals.{cursor_range_removed_or, symbol_after_removed, symbol_before_removed, symbols_ahead_removed, text_cleared, unselected_or, word_after_removed}
pub use Rattle.tui_textarea.specs.Removals.{word_before_removed, yanked}
pub use Rattle.tui_textarea.specs.Rendered.{IsDrawn}
pub use Rattle.tui_textarea.specs.Run.{Leads, Run, ShowsSame}
pub use Rattle.tui_textarea.specs.Search.{after_search, found_match, match_count, match_index, match_starts, next_match, previous_match, starts_in, with_pattern, with_search_text}
pub use Rattle.tui_textarea.specs.Selection.{IsInsertOutOfMemory, all_selected, selection_cancelled, selection_copied, selection_cut, selection_started, unselected}
pub use Rattle.tui_textarea.specs.State.{State, default_settings, new_state, text_of_each, with_change_log, with_changes_taken, with_document, with_other_lines}
pub use Rattle.tui_textarea.specs.TextAreaLaw.{HasRowsFromScratch, PastesCopy}
pub use Rattle.tui_textarea.specs.Matches.{AreInTextOrder, LeadsToFirstMatch, LeadsToMatchAfter}
pub use Rattle.tui_textarea.specs.TypedLine.{IsTypedLine, with_character}
