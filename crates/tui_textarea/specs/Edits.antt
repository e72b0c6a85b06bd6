-- The states after insertions, which first remove the selected text, as its own edit; with grouping
-- on, both edits are in one group.
use Rattle.std.specs.Prelude.{ℕ, ◌-◌, ◌%◌, ◌==◌, ◌||◌, Bool, not, List, [], length, take, replicate, slice_index_or, if◌then◌else◌}
use Rattle.textarea_text.specs.Text.{Symbol, Character, lines}
use Rattle.textarea_document.specs.DocumentState.{DocumentState}
use Rattle.textarea_document.specs.Edits.{insertion_place, has_symbols, break_inserted, character_inserted, symbols_inserted}
use Rattle.textarea_document.specs.Selection.{is_selected}
use Rattle.textarea_text.specs.Tab.{width_of}
use Rattle.tui_textarea.specs.Fitting.{fitting_count}
use Rattle.tui_textarea.specs.Grouping.{call_begun, call_ended}
use Rattle.tui_textarea.specs.State.{State, with_document}
use Rattle.tui_textarea.specs.Selection.{selection_cancelled, unselected}
use Rattle.tui_textarea.specs.LayoutCalls.{tab_length}

-- a line feed and a carriage return break the line
abbrev pub breaks_line : ℕ → Bool
breaks_line c = (c == 10) || (c == 13)

-- the character is inserted at the insertion position, as typed
abbrev pub typed_character_inserted : State → ℕ → State
typed_character_inserted state c = with_document state (character_inserted state.document c state.settings.undo_coalescing state.time)

abbrev pub line_broken : State → State
line_broken state = with_document state (break_inserted state.document state.time)

-- the character, or the break that it means, is inserted
abbrev pub char_or_break_inserted : State → ℕ → State
char_or_break_inserted state c = if breaks_line c then line_broken state else typed_character_inserted state c

-- the symbols are inserted; without any, the cursor moves to the insertion position, and nothing is
-- selected any more
abbrev pub symbols_or_none_inserted : State → List Symbol → State
symbols_or_none_inserted state symbols = with_document state (symbols_inserted state.document symbols state.time)

-- the characters before the insertion position in its line: before the cursor, or before the end of
-- the atomic range that strictly contains it
abbrev pub before_insertion : DocumentState → List ℕ
before_insertion document = take (insertion_place document).1 (slice_index_or (lines document.text) (insertion_place document).0 [])

-- the spaces to the next tab stop: the tab length minus the width before them modulo the tab length
abbrev pub spaces_to_stop : DocumentState → ℕ → ℕ
spaces_to_stop document tab_length = tab_length - width_of (before_insertion document) % tab_length

-- those of them that fit
abbrev pub fitting_spaces : State → ℕ → List Symbol
fitting_spaces state tab_length =
    replicate (fitting_count state.settings.max_chars (length state.document.text) (spaces_to_stop state.document tab_length)) (Character 32)

-- a tab of this length is inserted: nothing at tab length 0, otherwise a tab character, typed, or
-- the spaces to the next tab stop
abbrev pub tab_or_spaces_inserted : State → ℕ → State
tab_or_spaces_inserted state tab_length =
    if tab_length == 0 then selection_cancelled state
    else (if state.settings.hard_tab_indent then typed_character_inserted state 9 else symbols_or_none_inserted state (fitting_spaces state tab_length))

-- ---- the calls

abbrev pub char_inserted : State → ℕ → State
char_inserted state c = call_ended state (char_or_break_inserted (unselected (call_begun state)) c)

abbrev pub newline_inserted : State → State
newline_inserted state = call_ended state (line_broken (unselected (call_begun state)))

abbrev pub str_inserted : State → List Symbol → State
str_inserted state symbols = call_ended state (symbols_or_none_inserted (unselected (call_begun state)) symbols)

-- whether a text was inserted or a selection removed
abbrev pub inserts_text : State → List Symbol → Bool
inserts_text state symbols = is_selected state.document || has_symbols symbols

abbrev pub tab_inserted : State → State
tab_inserted state = call_ended state (tab_or_spaces_inserted (unselected (call_begun state)) (tab_length state.document))

abbrev pub inserts_tab : State → Bool
inserts_tab state = not (tab_length state.document == 0) || is_selected state.document
