-- The states after removals. If text is selected, only that is removed, and nothing is yanked.
use Rattle.std.specs.Prelude.{ℕ, ◌+◌, ◌==◌, ◌||◌, nat_lt, Bool, not, List, [], length, min, slice_index_or, if◌then◌else◌, Option, None, Some, is_some}
use Rattle.textarea_text.specs.Text.{lines}
use Rattle.textarea_text.specs.Place.{Place, place_of}
use Rattle.textarea_document.specs.DocumentState.{DocumentState}
use Rattle.textarea_document.specs.Edits.{cursor_index, range_before, range_after, is_at_end, is_at_start, has_symbols, removed_symbols, removed_before, removed_after, break_removed, between_removed}
use Rattle.textarea_document.specs.Selection.{is_selected}
use Rattle.textarea_data.specs.declared.range.AtomicRange.{AtomicRange}
use Rattle.textarea_ranges.specs.Lookup.{range_start, range_end}
use Rattle.textarea_document.specs.Target.{word_end_after, word_start_before}
use Rattle.tui_textarea.specs.State.{State, with_document}
use Rattle.tui_textarea.specs.Units.{earlier_start, later_end, whole_end, whole_start}
use Rattle.tui_textarea.specs.Selection.{selection_cancelled, unselected}

-- ---- where nothing is selected

-- the text between the two positions is removed and yanked, with the atomic ranges that it overlaps
unfoldable pub yanked : State → Place → Place → State
yanked state from to = record state { document = between_removed state.document from to state.time; yank = removed_symbols state.document from to }

-- the text from this position to the cursor is removed; without one it is the atomic range at the
-- cursor, backward, or else the symbol before the cursor, if there is one, as a typed edit
abbrev pub removed_from : Option Place → State → State
removed_from None state = with_document state (removed_before state.document state.settings.undo_coalescing state.time)
removed_from (Some start) state = with_document state (between_removed state.document start state.document.cursor state.time)

-- the same forward
abbrev pub removed_up_to : Option Place → State → State
removed_up_to None state = with_document state (removed_after state.document state.settings.undo_coalescing state.time)
removed_up_to (Some stop) state = with_document state (between_removed state.document state.document.cursor stop state.time)

-- the symbol before the cursor is removed, with all of the cluster and the range that have it if the
-- cursor goes by clusters; and the same forward
abbrev pub symbol_before_removed : State → State
symbol_before_removed state = removed_from (earlier_start state) state

abbrev pub symbol_after_removed : State → State
symbol_after_removed state = removed_up_to (later_end state) state

-- the break before the cursor's line is removed, if there is one
abbrev pub break_before_removed : State → State
break_before_removed state = with_document state (break_removed state.document state.time)

abbrev pub cursor_line : DocumentState → List ℕ
cursor_line document = slice_index_or (lines document.text) document.cursor.0 []

abbrev pub is_at_line_end : DocumentState → Bool
is_at_line_end document = document.cursor.1 == length (cursor_line document)

-- the position of this column in the cursor's line
abbrev pub in_line : DocumentState → ℕ → Place
in_line document column = (document.cursor.0, column)

-- the index this number of symbols after the cursor, or the text's end
abbrev pub index_ahead : DocumentState → ℕ → ℕ
index_ahead document count = min (cursor_index document + count) (length document.text)

-- this number of symbols after the cursor, or all if there are fewer, are removed and yanked
abbrev pub symbols_ahead_removed : State → ℕ → State
symbols_ahead_removed state count =
    if nat_lt (cursor_index state.document) (index_ahead state.document count)
    then yanked state state.document.cursor (place_of state.document.text (index_ahead state.document count)) else selection_cancelled state

-- the text from the cursor to the line's end, or at the end the symbol after it
abbrev pub line_end_removed : State → State
line_end_removed state =
    if is_at_line_end state.document then symbol_after_removed state
    else yanked state state.document.cursor (in_line state.document (length (cursor_line state.document)))

-- the text from the line's start to the cursor, or at the start the break before it
abbrev pub line_head_removed : State → State
line_head_removed state =
    if state.document.cursor.1 == 0 then break_before_removed state else yanked state (in_line state.document 0) state.document.cursor

-- the range is removed and not yanked, with the clusters that it shares, if there is one; otherwise it
-- is the other state
abbrev pub cursor_range_removed_or : Option AtomicRange → State → State → State
cursor_range_removed_or None state other = other
cursor_range_removed_or (Some range) state other = with_document state (between_removed state.document (whole_start state (range_start range)) (whole_end state (range_end range)) state.time)

-- the text from the start of the word before the cursor, or from the line's start, to the cursor;
-- at the line's start the break before it
unfoldable pub back_to_word_removed : State → State
back_to_word_removed state =
    if state.document.cursor.1 == 0 then break_before_removed state
    else yanked state (whole_start state (in_line state.document (word_start_before (cursor_line state.document) state.document.cursor.1))) state.document.cursor

-- the range at the cursor, backward, or else back to the word's start
abbrev pub word_before_removed : State → State
word_before_removed state = cursor_range_removed_or (range_before state.document) state (back_to_word_removed state)

-- the text from the cursor to the word's end, or to the line's end; there the symbol after it
unfoldable pub on_to_word_end_removed : State → State
on_to_word_end_removed state =
    if is_at_line_end state.document then symbol_after_removed state
    else yanked state state.document.cursor (whole_end state (in_line state.document (word_end_after (cursor_line state.document) state.document.cursor.1)))

-- the range at the cursor, forward, or else up to the word's end
abbrev pub word_after_removed : State → State
word_after_removed state = cursor_range_removed_or (range_after state.document) state (on_to_word_end_removed state)

-- whether each of them has a symbol to remove
abbrev pub has_before : State → Bool
has_before state = not (is_at_start state.document)

abbrev pub has_after : State → Bool
has_after state = not (is_at_end state.document)

abbrev pub has_break_before : State → Bool
has_break_before state = not (state.document.cursor.0 == 0)

abbrev pub has_ahead : State → ℕ → Bool
has_ahead state count = nat_lt (cursor_index state.document) (index_ahead state.document count)

-- whether there is text after the cursor, in its line or after that; and the same before it
abbrev pub has_line_after : State → Bool
has_line_after state = not (is_at_line_end state.document) || has_after state

abbrev pub has_line_before : State → Bool
has_line_before state = not (state.document.cursor.1 == 0) || has_break_before state

-- whether there is a range at the cursor, or text in that direction
abbrev pub has_word_before : State → Bool
has_word_before state = is_some (range_before state.document) || has_line_before state

abbrev pub has_word_after : State → Bool
has_word_after state = is_some (range_after state.document) || has_line_after state

-- ---- the calls

-- if text is selected, that is removed, and otherwise it is the other state
abbrev pub unselected_or : State → State → State
unselected_or state other = if is_selected state.document then unselected state else other

abbrev pub removes_or : State → Bool → Bool
removes_or state other = is_selected state.document || other

-- all text is removed and yanked, as one removal from its start; an empty text stays unchanged
abbrev pub text_cleared : State → State
text_cleared state =
    if has_symbols state.document.text then yanked state (0, 0) (place_of state.document.text (length state.document.text)) else state
