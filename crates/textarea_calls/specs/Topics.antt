-- Written by tools/calls from crates/textarea_calls/calls.txt.
-- The call of each member of a topic, and which calls draw.
use Rattle.std.specs.Prelude.{Bool, true, false}
use Rattle.textarea_calls.specs.declared.call.Call.{Call}
use Rattle.textarea_calls.specs.declared.call.Call.TheVariants as call
use Rattle.textarea_calls.specs.declared.topic.Topic.{Topic}
use Rattle.textarea_calls.specs.declared.topic.Topic.TheVariants as topic
use Rattle.textarea_calls.specs.declared.topic.InsertCall.{InsertCall}
use Rattle.textarea_calls.specs.declared.topic.InsertCall.TheVariants as insert
use Rattle.textarea_calls.specs.declared.topic.RemoveCall.{RemoveCall}
use Rattle.textarea_calls.specs.declared.topic.RemoveCall.TheVariants as remove
use Rattle.textarea_calls.specs.declared.topic.HistoryCall.{HistoryCall}
use Rattle.textarea_calls.specs.declared.topic.HistoryCall.TheVariants as history
use Rattle.textarea_calls.specs.declared.topic.ChangesCall.{ChangesCall}
use Rattle.textarea_calls.specs.declared.topic.ChangesCall.TheVariants as changes
use Rattle.textarea_calls.specs.declared.topic.SelectCall.{SelectCall}
use Rattle.textarea_calls.specs.declared.topic.SelectCall.TheVariants as select
use Rattle.textarea_calls.specs.declared.topic.MoveCall.{MoveCall}
use Rattle.textarea_calls.specs.declared.topic.MoveCall.TheVariants as move
use Rattle.textarea_calls.specs.declared.topic.SearchCall.{SearchCall}
use Rattle.textarea_calls.specs.declared.topic.SearchCall.TheVariants as search
use Rattle.textarea_calls.specs.declared.topic.RangesCall.{RangesCall}
use Rattle.textarea_calls.specs.declared.topic.RangesCall.TheVariants as ranges
use Rattle.textarea_calls.specs.declared.topic.OptionsCall.{OptionsCall}
use Rattle.textarea_calls.specs.declared.topic.OptionsCall.TheVariants as options
use Rattle.textarea_calls.specs.declared.topic.AppearanceCall.{AppearanceCall}
use Rattle.textarea_calls.specs.declared.topic.AppearanceCall.TheVariants as appearance
use Rattle.textarea_calls.specs.declared.topic.KeysCall.{KeysCall}
use Rattle.textarea_calls.specs.declared.topic.KeysCall.TheVariants as keys
use Rattle.textarea_calls.specs.declared.topic.ReadCall.{ReadCall}
use Rattle.textarea_calls.specs.declared.topic.ReadCall.TheVariants as read

abbrev pub call_of_insert : InsertCall → Call
call_of_insert (insert.InsertChar c) = call.InsertChar c
call_of_insert insert.InsertNewline = call.InsertNewline
call_of_insert (insert.InsertStr text) = call.InsertStr text
call_of_insert (insert.InsertPasted text) = call.InsertPasted text
call_of_insert insert.InsertTab = call.InsertTab
call_of_insert insert.Paste = call.Paste
call_of_insert insert.DuplicateLine = call.DuplicateLine
call_of_insert insert.IndentLines = call.IndentLines
call_of_insert insert.OutdentLines = call.OutdentLines
call_of_insert insert.MoveLinesUp = call.MoveLinesUp
call_of_insert insert.MoveLinesDown = call.MoveLinesDown
call_of_insert (insert.ReplaceRange from to text) = call.ReplaceRange from to text
call_of_insert (insert.SetLines lines cursor) = call.SetLines lines cursor

abbrev pub call_of_remove : RemoveCall → Call
call_of_remove remove.DeleteChar = call.DeleteChar
call_of_remove remove.DeleteNextChar = call.DeleteNextChar
call_of_remove remove.DeleteNewline = call.DeleteNewline
call_of_remove (remove.DeleteStr count) = call.DeleteStr count
call_of_remove remove.DeleteLineByEnd = call.DeleteLineByEnd
call_of_remove remove.DeleteLineByHead = call.DeleteLineByHead
call_of_remove remove.DeleteWord = call.DeleteWord
call_of_remove remove.DeleteNextWord = call.DeleteNextWord
call_of_remove remove.Clear = call.Clear
call_of_remove remove.Cut = call.Cut

abbrev pub call_of_history : HistoryCall → Call
call_of_history history.Undo = call.Undo
call_of_history history.Redo = call.Redo
call_of_history (history.SetMaxHistories maximum) = call.SetMaxHistories maximum
call_of_history (history.SetUndoCoalescing joins) = call.SetUndoCoalescing joins
call_of_history (history.SetUndoGrouping groups) = call.SetUndoGrouping groups
call_of_history (history.SetUndoRanges on) = call.SetUndoRanges on
call_of_history history.BeginUndoGroup = call.BeginUndoGroup
call_of_history history.EndUndoGroup = call.EndUndoGroup
call_of_history history.EndRun = call.EndRun
call_of_history (history.SetNow time) = call.SetNow time

abbrev pub call_of_changes : ChangesCall → Call
call_of_changes (changes.SetChangeLog unit) = call.SetChangeLog unit
call_of_changes changes.TakeChanges = call.TakeChanges

abbrev pub call_of_select : SelectCall → Call
call_of_select select.StartSelection = call.StartSelection
call_of_select select.CancelSelection = call.CancelSelection
call_of_select select.SelectAll = call.SelectAll
call_of_select select.Copy = call.Copy
call_of_select (select.SetYankText text) = call.SetYankText text

abbrev pub call_of_move : MoveCall → Call
call_of_move (move.Move cursor_move) = call.Move cursor_move
call_of_move (move.GoTo place) = call.GoTo place
call_of_move (move.Scroll scrolling) = call.Scroll scrolling

abbrev pub call_of_search : SearchCall → Call
call_of_search (search.SetSearchPattern pattern) = call.SetSearchPattern pattern
call_of_search (search.SetSearchText text ignore_case whole_word) = call.SetSearchText text ignore_case whole_word
call_of_search (search.SearchForward match_cursor) = call.SearchForward match_cursor
call_of_search (search.SearchBack match_cursor) = call.SearchBack match_cursor
call_of_search (search.ReplaceMatch text) = call.ReplaceMatch text
call_of_search (search.ReplaceAll text) = call.ReplaceAll text

abbrev pub call_of_ranges : RangesCall → Call
call_of_ranges (ranges.TrySetAtomicRanges ranges) = call.TrySetAtomicRanges ranges
call_of_ranges ranges.ClearAtomicRanges = call.ClearAtomicRanges
call_of_ranges (ranges.NormalizeCursorAroundAtomicRanges bias) = call.NormalizeCursorAroundAtomicRanges bias
call_of_ranges (ranges.AtomicRangeAtCursor direction) = call.AtomicRangeAtCursor direction
call_of_ranges (ranges.DeleteAtomicRangeAtCursor direction) = call.DeleteAtomicRangeAtCursor direction

abbrev pub call_of_options : OptionsCall → Call
call_of_options (options.SetTabLength columns) = call.SetTabLength columns
call_of_options (options.SetHardTabIndent hard) = call.SetHardTabIndent hard
call_of_options (options.SetReadOnly read_only) = call.SetReadOnly read_only
call_of_options (options.SetSingleLine single_line) = call.SetSingleLine single_line
call_of_options (options.SetMaxChars maximum) = call.SetMaxChars maximum
call_of_options (options.SetCursorUnit unit) = call.SetCursorUnit unit
call_of_options (options.SetWrapMode mode) = call.SetWrapMode mode
call_of_options (options.SetLineNumberStyle style) = call.SetLineNumberStyle style
call_of_options options.RemoveLineNumber = call.RemoveLineNumber
call_of_options (options.SetAlignment alignment) = call.SetAlignment alignment
call_of_options (options.SetMinRows rows) = call.SetMinRows rows
call_of_options (options.SetMaxRows rows) = call.SetMaxRows rows

abbrev pub call_of_appearance : AppearanceCall → Call
call_of_appearance (appearance.SetBlock block) = call.SetBlock block
call_of_appearance appearance.RemoveBlock = call.RemoveBlock
call_of_appearance (appearance.SetPlaceholderText text) = call.SetPlaceholderText text
call_of_appearance (appearance.SetStyledPlaceholder text) = call.SetStyledPlaceholder text
call_of_appearance (appearance.SetPlaceholderStyle style) = call.SetPlaceholderStyle style
call_of_appearance (appearance.SetStyle style) = call.SetStyle style
call_of_appearance (appearance.SetCursorStyle style) = call.SetCursorStyle style
call_of_appearance (appearance.SetCursorLineStyle style) = call.SetCursorLineStyle style
call_of_appearance (appearance.SetCursorLineNumberStyle style) = call.SetCursorLineNumberStyle style
call_of_appearance (appearance.SetSelectionStyle style) = call.SetSelectionStyle style
call_of_appearance (appearance.SetSearchStyle style) = call.SetSearchStyle style
call_of_appearance (appearance.SetMaskChar mask) = call.SetMaskChar mask
call_of_appearance appearance.ClearMaskChar = call.ClearMaskChar
call_of_appearance (appearance.SetCursorRenderMode mode) = call.SetCursorRenderMode mode
call_of_appearance (appearance.CustomHighlight range style priority) = call.CustomHighlight range style priority
call_of_appearance appearance.ClearCustomHighlight = call.ClearCustomHighlight

abbrev pub call_of_keys : KeysCall → Call
call_of_keys (keys.Input input) = call.Input input
call_of_keys (keys.InputWithoutShortcuts input) = call.InputWithoutShortcuts input

abbrev pub call_of_read : ReadCall → Call
call_of_read read.Text = call.Text
call_of_read (read.TextRange from to) = call.TextRange from to
call_of_read read.Cursor = call.Cursor
call_of_read read.IsEmpty = call.IsEmpty
call_of_read read.IsSelecting = call.IsSelecting
call_of_read read.SelectionRange = call.SelectionRange
call_of_read read.MatchCount = call.MatchCount
call_of_read read.MatchIndex = call.MatchIndex
call_of_read read.YankText = call.YankText
call_of_read read.MaxHistories = call.MaxHistories
call_of_read read.UndoCoalescing = call.UndoCoalescing
call_of_read read.UndoGrouping = call.UndoGrouping
call_of_read read.UndoRanges = call.UndoRanges
call_of_read read.ReadOnly = call.ReadOnly
call_of_read read.SingleLine = call.SingleLine
call_of_read read.MaxChars = call.MaxChars
call_of_read read.CursorUnit = call.CursorUnit
call_of_read read.TabLength = call.TabLength
call_of_read read.HardTabIndent = call.HardTabIndent
call_of_read read.WrapMode = call.WrapMode
call_of_read read.LineNumberStyle = call.LineNumberStyle
call_of_read read.Alignment = call.Alignment
call_of_read read.MinRows = call.MinRows
call_of_read read.MaxRows = call.MaxRows
call_of_read (read.Measure width) = call.Measure width
call_of_read read.PlaceholderStyle = call.PlaceholderStyle
call_of_read read.Style = call.Style
call_of_read read.CursorStyle = call.CursorStyle
call_of_read read.CursorLineStyle = call.CursorLineStyle
call_of_read read.CursorLineNumberStyle = call.CursorLineNumberStyle
call_of_read read.SelectionStyle = call.SelectionStyle
call_of_read read.SearchStyle = call.SearchStyle
call_of_read read.MaskChar = call.MaskChar
call_of_read read.CursorRenderMode = call.CursorRenderMode
call_of_read read.RenderedCursorPosition = call.RenderedCursorPosition
call_of_read (read.CursorAtPosition position) = call.CursorAtPosition position

-- the call of a topic, with its arguments
abbrev pub call_of : Topic → Call
call_of (topic.Insert asked) = call_of_insert asked
call_of (topic.Remove asked) = call_of_remove asked
call_of (topic.History asked) = call_of_history asked
call_of (topic.Changes asked) = call_of_changes asked
call_of (topic.Select asked) = call_of_select asked
call_of (topic.Move asked) = call_of_move asked
call_of (topic.Search asked) = call_of_search asked
call_of (topic.Ranges asked) = call_of_ranges asked
call_of (topic.Options asked) = call_of_options asked
call_of (topic.Appearance asked) = call_of_appearance asked
call_of (topic.Keys asked) = call_of_keys asked
call_of (topic.Read asked) = call_of_read asked

-- whether the call draws
abbrev pub draws : Call → Bool
draws (call.Render area) = true
draws other = false
