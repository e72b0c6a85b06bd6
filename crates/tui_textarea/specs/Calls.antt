-- What each call does: its result, the state after it, its splices, and where it may run out of memory.
use Rattle.std.specs.Prelude.{◌≡◌, ◌≢◌, ◌&&◌, true, false, List, [], ◌∷◌, if◌then◌else◌, is_some, length, not, None, Some, String}
use Rattle.std.specs.Duration.{as_nanos}
use Rattle.std.specs.Str.{chars}
use Rattle.textarea_text.specs.Place.{Place}
use Rattle.textarea_text.specs.Splice.{Splice}
use Rattle.textarea_text.specs.Text.{Break, lines, lines_of}
use Rattle.textarea_data.specs.declared.range.AtomicRange.{AtomicRange}
use Rattle.textarea_data.specs.declared.range.RejectedAtomicRange.{RejectedAtomicRange}
use Rattle.textarea_ranges.specs.Lookup.{range_around}
use Rattle.textarea_ranges.specs.Order.{in_order}
use Rattle.textarea_ranges.specs.Rejected.{rejected_of}
use Rattle.textarea_history.specs.Log.{newest, next}
use Rattle.textarea_text.specs.Fragment.{fragment_symbols, fragment_text, pasted_symbols}
use Rattle.textarea_document.specs.DocumentState.{history_forgotten, lines_replaced, undo_ranges_set}
use Rattle.textarea_document.specs.Edits.{range_at_cursor, has_symbols}
use Rattle.textarea_document.specs.Indenting.{indent_splices, lines_indented, lines_outdented, outdent_splices, shifts_lines}
use Rattle.textarea_document.specs.Moving.{has_line_above, has_line_below, lines_moved_down, lines_moved_up, move_down_splices, move_up_splices}
use Rattle.textarea_document.specs.Outcomes.{after_redo, run_ended, after_undo}
use Rattle.textarea_document.specs.Replacing.{stretch_symbols}
use Rattle.textarea_document.specs.Selection.{is_selected, lines_duplicated, selection_duplication}
use Rattle.textarea_document.specs.Selection as document_selection
use Rattle.textarea_document.specs.Splices.{break_splices, redo_splices, selected_splices, undo_splices}
use Rattle.textarea_data.specs.declared.range.AtomicCursorBias.TheVariants.{Forward}
use Rattle.tui_textarea.specs.State.{State, with_change_log, with_changes_taken, with_document, with_other_lines}
use Rattle.tui_textarea.specs.Units.{settled}
use Rattle.tui_textarea.specs.CallUnits.{settled_after}
use Rattle.tui_textarea.specs.Splices.{ahead_splices, atomic_range_splices, char_splices, clear_splices, line_end_splices, line_head_splices, selected_splices_or, str_splices, symbol_after_splices, symbol_before_splices}
use Rattle.tui_textarea.specs.Splices.{tab_splices, word_after_splices, word_before_splices}
use Rattle.tui_textarea.specs.Edits.{inserts_tab, inserts_text, char_inserted, newline_inserted, tab_inserted, str_inserted}
use Rattle.tui_textarea.specs.Guards.{admitted, admitted_for, admitted_over_selection, barred_after, replaces_whole, whole_range_replaced, whole_range_splices}
use Rattle.tui_textarea.specs.Guards.{bars_break, bars_character, bars_duplicate, bars_each, bars_indent, bars_tab, has_several_lines, is_barred, is_editable, removable_range, single_line_set}
use Rattle.tui_textarea.specs.Grouping.{typing_ended, undo_group_begun, undo_group_ended}
use Rattle.tui_textarea.specs.Removals.{break_before_removed, text_cleared, has_ahead, has_before, has_after, has_break_before, has_line_before, has_line_after, has_word_before}
use Rattle.tui_textarea.specs.Removals.{has_word_after, line_end_removed, line_head_removed, removes_or, symbol_before_removed, symbol_after_removed, symbols_ahead_removed}
use Rattle.tui_textarea.specs.Removals.{unselected_or, word_before_removed, word_after_removed}
use Rattle.tui_textarea.specs.Selection.{all_selected, selection_copied, selection_cut, selection_cancelled, selection_started, unselected}
use Rattle.tui_textarea.specs.Selection as selection
use Rattle.textarea_screen.specs.Block.{block_view}
use Rattle.textarea_screen.specs.Text.{text_view}
use Rattle.textarea_view.specs.SurroundState.{style_with_lines}
use Rattle.textarea_view.specs.Outcomes.{with_max_rows, with_min_rows, with_placeholder_style, with_placeholder_text}
use Rattle.textarea_screen.specs.declared.screen.alignment.Alignment.TheVariants.{Left}
use Rattle.tui_textarea.specs.Drawing.{highlighted, unhighlighted, with_look_set}
use Rattle.tui_textarea.specs.LayoutCalls.{alignment_set, mode_set, number_style, line_numbers_set, keeps_layout, tab_length, tab_length_set, with_alignment, with_line_numbers, with_tab_length, with_wrap_mode, without_line_numbers}
use Rattle.tui_textarea.specs.Moves.{gone_to}
use Rattle.tui_textarea.specs.Measure.{reads_rows, with_surround}
use Rattle.tui_textarea.specs.Search.{match_count, match_index, next_match, previous_match, after_search, with_pattern, with_search_text}
use Rattle.tui_textarea.specs.Patterns.{IsNewPattern}
use Rattle.tui_textarea.specs.Replacing.{match_at_cursor, match_replaced, match_splices, matches_replaced, matches_splices, replaceable}
use Rattle.tui_textarea.specs.Ranges.{cursor_normalized, atomic_range_removed, ranges_accepted, ranges_cleared}
use Rattle.tui_textarea.specs.CallResults as reported
use Rattle.tui_textarea.specs.CallResults.{CallResult, Done, Flag, Range, Rejected, Text}
use Rattle.textarea_calls.specs.declared.call.Call.{Call}
use Rattle.textarea_calls.specs.declared.call.Call.TheVariants as call

-- those of the ranges that are rejected, in their order, each with its reason
abbrev pub rejected_ranges : State → List AtomicRange → List RejectedAtomicRange
rejected_ranges state ranges = rejected_of (lines state.document.text) (in_order ranges)

-- the result of setting ranges: the rejected ranges, or done if there are none
abbrev pub ranges_result : List RejectedAtomicRange → CallResult
ranges_result [] = Done
ranges_result (range ∷ rejected) = Rejected (range ∷ rejected)

-- the ranges are set if none is rejected, and otherwise nothing changes
abbrev pub with_ranges_if : List RejectedAtomicRange → State → List AtomicRange → State
with_ranges_if [] state ranges = settled Forward (ranges_accepted state ranges)
with_ranges_if (range ∷ rejected) state ranges = state

-- the result of the call; of one that sets a pattern, if the pattern is accepted. The results of a
-- measure, a hit test and an input are defined elsewhere
abbrev pub result_of_call : State → Call → CallResult
result_of_call state (call.InsertStr text) = Flag (is_editable state && inserts_text state (admitted_over_selection state (fragment_symbols (chars text.now))))
result_of_call state (call.InsertPasted text) = Flag (is_editable state && inserts_text state (admitted_over_selection state (pasted_symbols (chars text.now))))
result_of_call state call.IndentLines = Flag (not (bars_indent state) && shifts_lines state.document None)
result_of_call state call.OutdentLines = Flag (is_editable state && shifts_lines state.document (Some state.settings.cursor_unit))
result_of_call state call.MoveLinesUp = Flag (is_editable state && has_line_above state.document)
result_of_call state call.MoveLinesDown = Flag (is_editable state && has_line_below state.document)
result_of_call state (call.ReplaceRange from to text) = Flag (is_editable state && replaces_whole state from to (fragment_symbols (chars text.now)))
result_of_call state (call.ReplaceMatch text) = Flag (is_editable state && is_some (match_at_cursor state))
result_of_call state (call.ReplaceAll text) = reported.Number (if bars_each state text then 0 else length (replaceable state))
result_of_call state call.InsertTab = Flag (not (bars_tab state) && inserts_tab state)
result_of_call state (call.DeleteStr count) = Flag (is_editable state && removes_or state (has_ahead state count))
result_of_call state call.DeleteNewline = Flag (is_editable state && removes_or state (has_break_before state))
result_of_call state call.DeleteChar = Flag (is_editable state && removes_or state (has_before state))
result_of_call state call.DeleteNextChar = Flag (is_editable state && removes_or state (has_after state))
result_of_call state call.DeleteLineByEnd = Flag (is_editable state && removes_or state (has_line_after state))
result_of_call state call.DeleteLineByHead = Flag (is_editable state && removes_or state (has_line_before state))
result_of_call state call.DeleteWord = Flag (is_editable state && removes_or state (has_word_before state))
result_of_call state call.DeleteNextWord = Flag (is_editable state && removes_or state (has_word_after state))
result_of_call state call.Clear = Flag (is_editable state && has_symbols state.document.text)
result_of_call state call.Cut = Flag (is_selected state.document)
result_of_call state call.Paste = Flag (is_editable state && has_symbols (admitted_over_selection state state.yank))
result_of_call state call.Undo = Flag (is_editable state && is_some (newest state.document.log))
result_of_call state call.Redo = Flag (is_editable state && is_some (next state.document.log))
result_of_call state call.TakeChanges = reported.Changes state.document.changes.made
result_of_call state call.Text = Text (fragment_text state.document.text)
result_of_call state (call.TextRange from to) = Text (fragment_text (stretch_symbols state.document.text from to))
result_of_call state call.YankText = Text (fragment_text state.yank)
result_of_call state (call.TrySetAtomicRanges ranges) = ranges_result (rejected_ranges state ranges.now)
result_of_call state (call.NormalizeCursorAroundAtomicRanges bias) = Flag (is_some (range_around state.document.ranges state.document.cursor))
result_of_call state (call.AtomicRangeAtCursor direction) = Range (range_at_cursor state.document direction)
result_of_call state (call.DeleteAtomicRangeAtCursor direction) = Range (removable_range state direction)
result_of_call state (call.SearchForward at_cursor) = Flag (is_some (next_match state at_cursor))
result_of_call state (call.SearchBack at_cursor) = Flag (is_some (previous_match state at_cursor))
result_of_call state call.MatchCount = reported.Number (match_count state)
result_of_call state call.MatchIndex = reported.NumberIfAny (match_index state)
-- Styles: Written by tools/calls from crates/textarea_calls/calls.txt.
result_of_call state call.Style = reported.Style state.drawing.look.style
result_of_call state call.CursorStyle = reported.Style state.drawing.look.cursor_style
result_of_call state call.CursorLineStyle = reported.Style state.drawing.look.cursor_line_style
result_of_call state call.CursorLineNumberStyle = reported.Style state.drawing.look.cursor_line_number_style
result_of_call state call.SelectionStyle = reported.Style state.drawing.look.selection_style
result_of_call state call.SearchStyle = reported.Style state.drawing.look.search_style
-- End of what tools/calls writes.
result_of_call state call.MaskChar = reported.Character state.drawing.look.mask
result_of_call state call.CursorRenderMode = reported.CursorRenderMode state.drawing.look.cursor_render_mode
result_of_call state call.Alignment = reported.Alignment state.drawing.look.alignment
result_of_call state call.RenderedCursorPosition = reported.Position state.drawing.caret
result_of_call state call.Cursor = reported.Cursor state.document.cursor
result_of_call state call.IsEmpty = Flag (not (has_symbols state.document.text))
result_of_call state call.IsSelecting = Flag (is_some state.document.anchor)
result_of_call state call.SelectionRange = reported.Selection (document_selection.selection state.document)
result_of_call state call.TabLength = reported.Number (tab_length state.document)
result_of_call state call.HardTabIndent = Flag state.settings.hard_tab_indent
result_of_call state call.MaxHistories = reported.Number state.document.log.maximum
result_of_call state call.UndoCoalescing = Flag state.settings.undo_coalescing
result_of_call state call.UndoGrouping = Flag state.settings.undo_grouping
result_of_call state call.UndoRanges = Flag state.document.past_ranges.on
result_of_call state call.ReadOnly = Flag state.settings.read_only
result_of_call state (call.SetSingleLine single_line) = Flag (not (single_line && has_several_lines state))
result_of_call state call.SingleLine = Flag state.settings.single_line
result_of_call state call.MaxChars = reported.NumberIfAny state.settings.max_chars
result_of_call state call.CursorUnit = reported.CursorUnit state.settings.cursor_unit
result_of_call state call.WrapMode = reported.WrapMode state.document.layout.settings.mode
result_of_call state call.LineNumberStyle = reported.StyleIfVisible (number_style state)
result_of_call state call.PlaceholderStyle = reported.StyleIfVisible (style_with_lines state.surround.placeholder.lines state.surround.placeholder.style)
result_of_call state call.MinRows = reported.Number state.surround.min_rows
result_of_call state call.MaxRows = reported.Number state.surround.max_rows
result_of_call state call = Done

-- the lines replace the old ones, and all edits and custom highlights are forgotten: the cursor
-- moves to the nearest position in them, nothing is selected, and nothing is scrolled
abbrev pub with_lines : {Z : Type 0} → State → List (String Z) → Place → State
with_lines state lines cursor =
    with_other_lines state (lines_replaced state.document (lines_of lines) cursor)

-- the state after a call that no guard leaves out, before cursor and anchor are moved out of clusters;
-- after one that sets a pattern, if the pattern is accepted. The states after moves, scrolls, inputs and drawings are defined elsewhere
abbrev pub unguarded_after : State → Call → State
unguarded_after state (call.InsertChar c) = char_inserted state c
unguarded_after state (call.InsertStr text) = str_inserted state (admitted_over_selection state (fragment_symbols (chars text.now)))
unguarded_after state (call.InsertPasted text) = str_inserted state (admitted_over_selection state (pasted_symbols (chars text.now)))
unguarded_after state call.InsertTab = tab_inserted state
unguarded_after state call.InsertNewline = newline_inserted state
unguarded_after state call.DuplicateLine = with_document state (lines_duplicated state.document state.time)
unguarded_after state call.IndentLines = with_document state (lines_indented state.document state.settings.hard_tab_indent state.time)
unguarded_after state call.OutdentLines = with_document state (lines_outdented state.document state.settings.cursor_unit state.time)
unguarded_after state call.MoveLinesUp = with_document state (lines_moved_up state.document state.time)
unguarded_after state call.MoveLinesDown = with_document state (lines_moved_down state.document state.time)
unguarded_after state (call.ReplaceRange from to text) = whole_range_replaced state from to (fragment_symbols (chars text.now))
unguarded_after state (call.ReplaceMatch text) = match_replaced state (admitted_for (match_at_cursor state) state (fragment_symbols (chars text.now)))
unguarded_after state (call.ReplaceAll text) = matches_replaced state (admitted state (fragment_symbols (chars text.now)))
unguarded_after state (call.DeleteStr count) = unselected_or state (symbols_ahead_removed state count)
unguarded_after state call.DeleteNewline = unselected_or state (break_before_removed state)
unguarded_after state call.DeleteChar = unselected_or state (symbol_before_removed state)
unguarded_after state call.DeleteNextChar = unselected_or state (symbol_after_removed state)
unguarded_after state call.DeleteLineByEnd = unselected_or state (line_end_removed state)
unguarded_after state call.DeleteLineByHead = unselected_or state (line_head_removed state)
unguarded_after state call.DeleteWord = unselected_or state (word_before_removed state)
unguarded_after state call.DeleteNextWord = unselected_or state (word_after_removed state)
unguarded_after state call.Clear = text_cleared state
unguarded_after state call.Cut = selection_cut state
unguarded_after state call.Copy = selection_copied state
unguarded_after state call.Paste = str_inserted state (admitted_over_selection state state.yank)
unguarded_after state call.Undo = with_document state (after_undo state.document)
unguarded_after state call.Redo = with_document state (after_redo state.document)
unguarded_after state (call.SetChangeLog unit) = with_change_log state unit
unguarded_after state call.TakeChanges = with_changes_taken state
unguarded_after state (call.SetYankText text) = record state { yank = fragment_symbols (chars text.now) }
unguarded_after state call.YankText = state
unguarded_after state (call.TrySetAtomicRanges ranges) = with_ranges_if (rejected_ranges state ranges.now) state ranges.now
unguarded_after state (call.NormalizeCursorAroundAtomicRanges bias) = cursor_normalized state bias
unguarded_after state (call.AtomicRangeAtCursor direction) = state
unguarded_after state (call.DeleteAtomicRangeAtCursor direction) = atomic_range_removed state direction
unguarded_after state (call.SetLines lines cursor) = with_lines state lines.now cursor
unguarded_after state (call.SetSearchPattern text) = with_pattern state text.now
unguarded_after state (call.SetSearchText text ignore_case whole_word) = with_search_text state text.now ignore_case whole_word
unguarded_after state (call.SearchForward at_cursor) = after_search state (next_match state at_cursor)
unguarded_after state (call.SearchBack at_cursor) = after_search state (previous_match state at_cursor)
unguarded_after state (call.GoTo place) = gone_to state place
unguarded_after state call.StartSelection = selection_started state
unguarded_after state call.CancelSelection = selection_cancelled state
unguarded_after state call.SelectAll = all_selected state
unguarded_after state (call.SetTabLength columns) = with_tab_length state columns
unguarded_after state (call.SetWrapMode mode) = with_wrap_mode state mode
unguarded_after state (call.SetLineNumberStyle style) = with_line_numbers state style
unguarded_after state call.RemoveLineNumber = without_line_numbers state
unguarded_after state (call.SetBlock block) = with_surround state (record state.surround { block = Some (block_view block.now) })
unguarded_after state call.RemoveBlock = with_surround state (record state.surround { block = None })
unguarded_after state (call.SetPlaceholderText text) = with_surround state (with_placeholder_text state.surround text.now)
unguarded_after state (call.SetStyledPlaceholder text) = with_surround state (record state.surround { placeholder = text_view text.now })
unguarded_after state (call.SetPlaceholderStyle style) = with_surround state (with_placeholder_style state.surround style)
unguarded_after state (call.SetMinRows rows) = with_surround state (with_min_rows state.surround rows)
unguarded_after state (call.SetMaxRows rows) = with_surround state (with_max_rows state.surround rows)
unguarded_after state (call.SetHardTabIndent hard) = record state { settings = record state.settings { hard_tab_indent = hard } }
unguarded_after state (call.SetMaxHistories maximum) =
    with_document state (history_forgotten state.document maximum)
unguarded_after state (call.SetUndoCoalescing joins) =
    record state { document = record state.document { log = run_ended state.document.log }; settings = record state.settings { undo_coalescing = joins } }
unguarded_after state (call.SetUndoGrouping groups) = record state { settings = record state.settings { undo_grouping = groups } }
unguarded_after state (call.SetUndoRanges on) = with_document state (undo_ranges_set state.document on)
unguarded_after state (call.SetReadOnly read_only) = record state { settings = record state.settings { read_only = read_only } }
unguarded_after state (call.SetSingleLine single_line) = single_line_set state single_line
unguarded_after state (call.SetMaxChars maximum) = record state { settings = record state.settings { max_chars = maximum } }
unguarded_after state (call.SetCursorUnit unit) = record state { settings = record state.settings { cursor_unit = unit } }
unguarded_after state call.BeginUndoGroup = undo_group_begun state
unguarded_after state call.EndUndoGroup = undo_group_ended state
unguarded_after state call.EndRun = typing_ended state
unguarded_after state (call.SetNow time) = record state { time = as_nanos time }
unguarded_after state call.ClearAtomicRanges = ranges_cleared state
-- Styles that are set: Written by tools/calls from crates/textarea_calls/calls.txt.
unguarded_after state (call.SetStyle style) = with_look_set state (record state.drawing.look { style = style })
unguarded_after state (call.SetCursorStyle style) = with_look_set state (record state.drawing.look { cursor_style = style })
unguarded_after state (call.SetCursorLineStyle style) = with_look_set state (record state.drawing.look { cursor_line_style = style })
unguarded_after state (call.SetCursorLineNumberStyle style) = with_look_set state (record state.drawing.look { cursor_line_number_style = style })
unguarded_after state (call.SetSelectionStyle style) = with_look_set state (record state.drawing.look { selection_style = style })
unguarded_after state (call.SetSearchStyle style) = with_look_set state (record state.drawing.look { search_style = style })
-- End of what tools/calls writes.
unguarded_after state (call.SetMaskChar mask) = with_look_set state (record state.drawing.look { mask = Some mask })
unguarded_after state call.ClearMaskChar = with_look_set state (record state.drawing.look { mask = None })
unguarded_after state (call.SetCursorRenderMode mode) = with_look_set state (record state.drawing.look { cursor_render_mode = mode })
unguarded_after state (call.SetAlignment alignment) = with_alignment state alignment
unguarded_after state (call.CustomHighlight range style priority) = highlighted state range style priority
unguarded_after state call.ClearCustomHighlight = unhighlighted state
unguarded_after state call = state

-- the state after the call: one that no guard leaves out moves the cursor out of clusters, if this goes
-- by clusters
abbrev pub state_after : State → Call → State
state_after state made = if is_barred state made then barred_after state made else settled_after made (unguarded_after state made)

-- The splices of the call in this state, one after another, if no guard leaves it out. An
-- insertion over selected text has two, first the removal of that text; a replacement has at most
-- two, and one of several matches at most two for each of them; indenting and outdenting have one for
-- each line, and lines that move have two; any other edit, undo or redo has one, or those of a group;
-- a call that changes nothing in the text has none. The call that sets lines replaces the text, and
-- has none. Those of inputs are defined elsewhere.
abbrev pub unguarded_splices : State → Call → List Splice
unguarded_splices state (call.InsertChar c) = char_splices state c
unguarded_splices state (call.InsertStr text) = str_splices state (admitted_over_selection state (fragment_symbols (chars text.now)))
unguarded_splices state (call.InsertPasted text) = str_splices state (admitted_over_selection state (pasted_symbols (chars text.now)))
unguarded_splices state call.InsertTab = tab_splices state
unguarded_splices state call.InsertNewline = str_splices state (Break ∷ [])
unguarded_splices state call.Paste = str_splices state (admitted_over_selection state state.yank)
unguarded_splices state call.DuplicateLine = selection_duplication state.document ∷ []
unguarded_splices state call.IndentLines = indent_splices state.document state.settings.hard_tab_indent state.time
unguarded_splices state call.OutdentLines = outdent_splices state.document state.settings.cursor_unit state.time
unguarded_splices state call.MoveLinesUp = move_up_splices state.document state.time
unguarded_splices state call.MoveLinesDown = move_down_splices state.document state.time
unguarded_splices state (call.ReplaceRange from to text) = whole_range_splices state from to (fragment_symbols (chars text.now))
unguarded_splices state (call.ReplaceMatch text) = match_splices state (admitted_for (match_at_cursor state) state (fragment_symbols (chars text.now)))
unguarded_splices state (call.ReplaceAll text) = matches_splices state (admitted state (fragment_symbols (chars text.now)))
unguarded_splices state (call.DeleteStr count) = selected_splices_or state.document (ahead_splices state.document count)
unguarded_splices state call.DeleteNewline = selected_splices_or state.document (break_splices state.document)
unguarded_splices state call.DeleteChar = selected_splices_or state.document (symbol_before_splices state)
unguarded_splices state call.DeleteNextChar = selected_splices_or state.document (symbol_after_splices state)
unguarded_splices state call.DeleteLineByEnd = selected_splices_or state.document (line_end_splices state)
unguarded_splices state call.DeleteLineByHead = selected_splices_or state.document (line_head_splices state.document)
unguarded_splices state call.DeleteWord = selected_splices_or state.document (word_before_splices state)
unguarded_splices state call.DeleteNextWord = selected_splices_or state.document (word_after_splices state)
unguarded_splices state call.Clear = clear_splices state.document
unguarded_splices state call.Cut = selected_splices state.document
unguarded_splices state call.Undo = undo_splices state.document
unguarded_splices state call.Redo = redo_splices state.document
unguarded_splices state (call.DeleteAtomicRangeAtCursor direction) = atomic_range_splices state direction
unguarded_splices state call = []

-- the splices of the call: none, if a guard leaves it out
abbrev pub call_splices : State → Call → List Splice
call_splices state made = if is_barred state made then [] else unguarded_splices state made

-- the call may need memory: not if it has nothing to do, if a setting keeps the layout, if a
-- measure reads the cached rows, or for a hit test with left alignment; and never a move, a scroll,
-- any other setting or a call that reads one, a call that begins, drops or completes a selection,
-- one that clears or looks up ranges, or one that clears highlights
abbrev pub NeedsMemory : State → Call → Type 0
NeedsMemory state (call.InsertChar c) = bars_character state c ≢ true
NeedsMemory state (call.InsertStr text) = (is_editable state && inserts_text state (fragment_symbols (chars text.now))) ≢ false
NeedsMemory state (call.InsertPasted text) = (is_editable state && inserts_text state (pasted_symbols (chars text.now))) ≢ false
NeedsMemory state call.InsertTab = (not (bars_tab state) && inserts_tab state) ≢ false
NeedsMemory state call.InsertNewline = bars_break state ≢ true
NeedsMemory state call.DuplicateLine = bars_duplicate state ≢ true
NeedsMemory state call.IndentLines = is_editable state ≢ false
NeedsMemory state call.OutdentLines = is_editable state ≢ false
NeedsMemory state call.MoveLinesUp = (is_editable state && has_line_above state.document) ≢ false
NeedsMemory state call.MoveLinesDown = (is_editable state && has_line_below state.document) ≢ false
NeedsMemory state (call.ReplaceRange from to text) = is_editable state ≢ false
NeedsMemory state (call.ReplaceMatch text) = (state.pattern ≢ None) × (is_editable state ≢ false)
NeedsMemory state (call.ReplaceAll text) = (state.pattern ≢ None) × (is_editable state ≢ false)
NeedsMemory state (call.DeleteStr count) = (is_editable state && removes_or state (has_ahead state count)) ≢ false
NeedsMemory state call.DeleteNewline = (is_editable state && removes_or state (has_break_before state)) ≢ false
NeedsMemory state call.DeleteChar = (is_editable state && removes_or state (has_before state)) ≢ false
NeedsMemory state call.DeleteNextChar = (is_editable state && removes_or state (has_after state)) ≢ false
NeedsMemory state call.DeleteLineByEnd = (is_editable state && removes_or state (has_line_after state)) ≢ false
NeedsMemory state call.DeleteLineByHead = (is_editable state && removes_or state (has_line_before state)) ≢ false
NeedsMemory state call.DeleteWord = (is_editable state && removes_or state (has_word_before state)) ≢ false
NeedsMemory state call.DeleteNextWord = (is_editable state && removes_or state (has_word_after state)) ≢ false
NeedsMemory state call.Clear = (is_editable state && has_symbols state.document.text) ≢ false
NeedsMemory state call.Cut = is_selected state.document ≢ false
NeedsMemory state call.Copy = is_selected state.document ≢ false
NeedsMemory state call.Paste = (is_editable state && inserts_text state state.yank) ≢ false
NeedsMemory state call.Undo = (is_editable state && is_some (newest state.document.log)) ≢ false
NeedsMemory state call.Redo = (is_editable state && is_some (next state.document.log)) ≢ false
NeedsMemory state (call.SetYankText text) = Unit {0}
NeedsMemory state call.Text = Unit {0}
NeedsMemory state call.YankText = Unit {0}
NeedsMemory state (call.TextRange from to) = Unit {0}
NeedsMemory state (call.TrySetAtomicRanges ranges) = Unit {0}
NeedsMemory state (call.DeleteAtomicRangeAtCursor direction) = removable_range state direction ≢ None
NeedsMemory state (call.SetLines lines cursor) = Unit {0}
NeedsMemory state (call.SetSearchPattern text) = IsNewPattern state text.now
NeedsMemory state (call.SetSearchText text ignore_case whole_word) = text.now ≢ []
NeedsMemory state (call.SearchForward at_cursor) = state.pattern ≢ None
NeedsMemory state (call.SearchBack at_cursor) = state.pattern ≢ None
NeedsMemory state call.MatchCount = state.pattern ≢ None
NeedsMemory state call.MatchIndex = state.pattern ≢ None
NeedsMemory state (call.SetTabLength columns) = keeps_layout state (tab_length_set state columns) ≢ true
NeedsMemory state (call.SetWrapMode mode) = keeps_layout state (mode_set state mode) ≢ true
NeedsMemory state (call.SetLineNumberStyle style) = keeps_layout state (line_numbers_set state true) ≢ true
NeedsMemory state call.RemoveLineNumber = keeps_layout state (line_numbers_set state false) ≢ true
NeedsMemory state (call.Measure width) = reads_rows state width ≢ true
NeedsMemory state (call.SetBlock block) = Unit {0}
NeedsMemory state (call.SetPlaceholderText text) = text.now ≢ []
NeedsMemory state (call.SetStyledPlaceholder text) = Unit {0}
NeedsMemory state (call.SetAlignment alignment) = keeps_layout state (alignment_set state alignment) ≢ true
NeedsMemory state (call.CustomHighlight range style priority) = Unit {0}
NeedsMemory state (call.Render area) = Unit {0}
NeedsMemory state (call.CursorAtPosition position) = state.drawing.look.alignment ≢ Left
NeedsMemory state call = ⊥

-- the state after a call that ran out of memory: the old state, or, after an insertion, that
-- without the selected text
abbrev pub StateOutOfMemory : State → Call → State → Type 0
StateOutOfMemory old (call.InsertChar c) new = selection.IsInsertOutOfMemory old new
StateOutOfMemory old (call.InsertStr text) new = selection.IsInsertOutOfMemory old new
StateOutOfMemory old (call.InsertPasted text) new = selection.IsInsertOutOfMemory old new
StateOutOfMemory old call.InsertTab new = selection.IsInsertOutOfMemory old new
StateOutOfMemory old call.InsertNewline new = selection.IsInsertOutOfMemory old new
StateOutOfMemory old call.Paste new = selection.IsInsertOutOfMemory old new
StateOutOfMemory old call new = new ≡ old
