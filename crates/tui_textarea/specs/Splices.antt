-- The splices of each edit, as functions of the state.
use Rattle.std.specs.Prelude.{ℕ, ◌==◌, List, [], ◌∷◌, ◌++◌, Option, None, Some, length, nat_lt, if◌then◌else◌}
use Rattle.textarea_text.specs.Place.{Place, place_of}
use Rattle.textarea_text.specs.Splice.{Splice}
use Rattle.textarea_text.specs.Text.{Symbol, Break, Character}
use Rattle.textarea_document.specs.Edits.{cursor_index, range_at_cursor, range_before, range_after, has_symbols}
use Rattle.textarea_document.specs.Selection.{is_selected}
use Rattle.textarea_data.specs.declared.range.AtomicDeleteDirection.{AtomicDeleteDirection}
use Rattle.textarea_data.specs.declared.range.AtomicRange.{AtomicRange}
use Rattle.textarea_ranges.specs.Lookup.{range_end, range_start}
use Rattle.textarea_document.specs.Splices.{after_splices, before_splices, break_splices, insertion_splices, removal_splices, selected_splices}
use Rattle.textarea_document.specs.DocumentState.{DocumentState}
use Rattle.textarea_document.specs.Target.{word_end_after, word_start_before}
use Rattle.tui_textarea.specs.Edits.{breaks_line, fitting_spaces}
use Rattle.tui_textarea.specs.LayoutCalls.{tab_length}
use Rattle.tui_textarea.specs.Removals.{cursor_line, in_line, index_ahead, is_at_line_end}
use Rattle.tui_textarea.specs.Selection.{unselected}
use Rattle.tui_textarea.specs.State.{State}
use Rattle.tui_textarea.specs.Units.{earlier_start, later_end, whole_end, whole_start}

-- ---- insertions

-- the removal of the selected text, and then the insertion of the symbols into the remaining text
abbrev pub str_splices : State → List Symbol → List Splice
str_splices state symbols =
    selected_splices state.document ++ insertion_splices (unselected state).document symbols

-- a character, or the break that a line feed or a carriage return means
abbrev pub char_splices : State → ℕ → List Splice
char_splices state c =
    if breaks_line c then str_splices state (Break ∷ []) else str_splices state (Character c ∷ [])

-- a tab: nothing at tab length 0, otherwise a tab character or the spaces to the next tab stop
abbrev pub tab_splices : State → List Splice
tab_splices state =
    if tab_length state.document == 0 then str_splices state []
    else (if state.settings.hard_tab_indent then str_splices state (Character 9 ∷ [])
    else str_splices state (fitting_spaces (unselected state) (tab_length state.document)))

-- ---- removals

-- the removal of the selected text, if there is any, and otherwise the other splices
abbrev pub selected_splices_or : DocumentState → List Splice → List Splice
selected_splices_or document other = if is_selected document then selected_splices document else other

-- this number of symbols after the cursor, or all if there are fewer
abbrev pub ahead_splices : DocumentState → ℕ → List Splice
ahead_splices document count =
    if nat_lt (cursor_index document) (index_ahead document count)
    then removal_splices document document.cursor (place_of document.text (index_ahead document count)) else []

-- from this position to the cursor; without one the range at the cursor, backward, or else the symbol
-- before it, if any; and the same forward
abbrev pub splices_from : Option Place → DocumentState → List Splice
splices_from None document = before_splices document
splices_from (Some start) document = removal_splices document start document.cursor

abbrev pub splices_up_to : Option Place → DocumentState → List Splice
splices_up_to None document = after_splices document
splices_up_to (Some stop) document = removal_splices document document.cursor stop

-- the symbol before the cursor, with all of the cluster and the range that have it if the cursor goes
-- by clusters; and the same forward
abbrev pub symbol_before_splices : State → List Splice
symbol_before_splices state = splices_from (earlier_start state) state.document

abbrev pub symbol_after_splices : State → List Splice
symbol_after_splices state = splices_up_to (later_end state) state.document

-- from the cursor to the line's end, or at the end the symbol after it
abbrev pub line_end_splices : State → List Splice
line_end_splices state =
    let document = state.document in
    if is_at_line_end document then symbol_after_splices state
    else removal_splices document document.cursor (in_line document (length (cursor_line document)))

-- from the line's start to the cursor, or at the start the break before it
abbrev pub line_head_splices : DocumentState → List Splice
line_head_splices document =
    if document.cursor.1 == 0 then break_splices document
    else removal_splices document (in_line document 0) document.cursor

-- the range, with the clusters that it shares, if there is one; otherwise the other splices
abbrev pub whole_range_splices_or : Option AtomicRange → State → List Splice → List Splice
whole_range_splices_or None state other = other
whole_range_splices_or (Some range) state other =
    removal_splices state.document (whole_start state (range_start range)) (whole_end state (range_end range))

-- the range at the cursor in this direction, if there is one
abbrev pub atomic_range_splices : State → AtomicDeleteDirection → List Splice
atomic_range_splices state direction = whole_range_splices_or (range_at_cursor state.document direction) state []

-- the range at the cursor, backward, or else from the word's start to the cursor, at the line's
-- start the break before it
abbrev pub word_before_splices : State → List Splice
word_before_splices state =
    let document = state.document in
    whole_range_splices_or (range_before document) state
    (if document.cursor.1 == 0 then break_splices document
    else removal_splices document (whole_start state (in_line document (word_start_before (cursor_line document) document.cursor.1))) document.cursor)

-- the range at the cursor, forward, or else up to the word's end, at the line's end the symbol
-- after it
abbrev pub word_after_splices : State → List Splice
word_after_splices state =
    let document = state.document in
    whole_range_splices_or (range_after document) state
    (if is_at_line_end document then symbol_after_splices state
    else removal_splices document document.cursor (whole_end state (in_line document (word_end_after (cursor_line document) document.cursor.1))))

-- the whole text, if there is any
abbrev pub clear_splices : DocumentState → List Splice
clear_splices document =
    if has_symbols document.text then removal_splices document (0, 0) (place_of document.text (length document.text)) else []
