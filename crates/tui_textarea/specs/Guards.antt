-- What the guards of a text area leave out of its calls: all edits while it is read only, and line
-- breaks while it has a single line, and what doesn't fit while it has a greatest number of symbols.
use Rattle.std.specs.Prelude.{◌&&◌, ◌||◌, ℕ, Bool, List, Option, None, Some, length, map, nat_lt, not, true, false, if◌then◌else◌}
use Rattle.std.specs.Borrow.{Bor}
use Rattle.std.specs.Str.{chars}
use Rattle.textarea_calls.specs.Edits.{edits}
use Rattle.textarea_calls.specs.declared.call.Call.{Call}
use Rattle.textarea_calls.specs.declared.call.Call.TheVariants as call
use Rattle.textarea_data.specs.declared.range.AtomicCursorBias.TheVariants.{Forward}
use Rattle.textarea_data.specs.declared.range.AtomicDeleteDirection.{AtomicDeleteDirection}
use Rattle.textarea_data.specs.declared.range.AtomicRange.{AtomicRange}
use Rattle.textarea_document.specs.DocumentState.{history_forgotten, lines_replaced}
use Rattle.textarea_document.specs.Edits.{range_at_cursor}
use Rattle.textarea_document.specs.Replacing.{range_splices, replaces}
use Rattle.textarea_search.specs.declared.search.text_matches.TextMatch.{TextMatch}
use Rattle.textarea_text.specs.Fragment.{fragment_symbols}
use Rattle.textarea_text.specs.Place.{Place}
use Rattle.textarea_text.specs.Splice.{Splice}
use Rattle.textarea_text.specs.Text.{Symbol, Break, Character, lines, lines_of}
use Rattle.tui_textarea.specs.Edits.{breaks_line}
use Rattle.tui_textarea.specs.Fitting.{fitting_between, fitting_selection, fits_duplicate, fits_each, fits_indent, has_no_room}
use Rattle.tui_textarea.specs.Replacing.{end_of_match, replaceable, start_of_match, with_range_replaced}
use Rattle.tui_textarea.specs.Selection.{selection_copied}
use Rattle.tui_textarea.specs.State.{State, with_other_lines}
use Rattle.tui_textarea.specs.Units.{settled, whole_stretch}

-- ---- read only

abbrev pub is_editable : State → Bool
is_editable state = not state.settings.read_only

-- the new state, or the old one if the text area is read only
abbrev pub unless_read_only : State → State → State
unless_read_only old new = if old.settings.read_only then old else new

-- the range at the cursor that is removed, if there is one: none if the text area is read only
abbrev pub removable_range : State → AtomicDeleteDirection → Option AtomicRange
removable_range state direction = if state.settings.read_only then None else range_at_cursor state.document direction

-- ---- a single line

-- other lines are left out: there is more than one
abbrev pub bars_lines : State → List (List ℕ) → Bool
bars_lines state rows = state.settings.single_line && nat_lt 1 (length rows)

-- these lines replace the old ones, unless they are left out
abbrev pub other_lines_set : State → List (List ℕ) → Place → State
other_lines_set state rows cursor =
    if bars_lines state rows then state else settled Forward (with_other_lines state (lines_replaced state.document rows cursor))

-- what is inserted of a text: with a space for each break, in a text area of a single line
abbrev pub spaced : Symbol → Symbol
spaced Break = Character 32
spaced (Character c) = Character c

abbrev pub admitted : State → List Symbol → List Symbol
admitted state symbols = if state.settings.single_line then map spaced symbols else symbols

-- and of that what fits in place of the selected text, of that between two positions, or of the match
-- at the cursor, if there is one
abbrev pub admitted_over_selection : State → List Symbol → List Symbol
admitted_over_selection state symbols = fitting_selection state (admitted state symbols)

abbrev pub admitted_between : State → Place → Place → List Symbol → List Symbol
admitted_between state from to symbols = fitting_between state from to (admitted state symbols)

abbrev pub admitted_for : Option TextMatch → State → List Symbol → List Symbol
admitted_for None state symbols = symbols
admitted_for (Some found) state symbols = admitted_between state (start_of_match found) (end_of_match found) symbols

-- what replaces the text between two positions, what is replaced being whole characters; the state after
-- that, its splices, and whether it removes or inserts a symbol
abbrev pub admitted_whole : State → Place → Place → List Symbol → List Symbol
admitted_whole state from to symbols =
    let ends = whole_stretch state from to in
    admitted_between state ends.0 ends.1 symbols

abbrev pub whole_range_replaced : State → Place → Place → List Symbol → State
whole_range_replaced state from to symbols =
    let ends = whole_stretch state from to in
    with_range_replaced state ends.0 ends.1 (admitted_whole state from to symbols)

abbrev pub whole_range_splices : State → Place → Place → List Symbol → List Splice
whole_range_splices state from to symbols =
    let ends = whole_stretch state from to in
    range_splices state.document ends.0 ends.1 (admitted_whole state from to symbols) state.time

abbrev pub replaces_whole : State → Place → Place → List Symbol → Bool
replaces_whole state from to symbols =
    let ends = whole_stretch state from to in
    replaces state.document.text ends.0 ends.1 (admitted_whole state from to symbols)

-- a text of several lines can't be a single line
abbrev pub has_several_lines : State → Bool
has_several_lines state = nat_lt 1 (length (lines state.document.text))

-- no edit is remembered, since one may have had a break
abbrev pub made_single : State → State
made_single state =
    record state { document = history_forgotten state.document state.document.log.maximum; settings = record state.settings { single_line = true } }

abbrev pub single_line_set : State → Bool → State
single_line_set state true = if has_several_lines state then state else made_single state
single_line_set state false = record state { settings = record state.settings { single_line = false } }

-- ---- any call

-- the call sets lines
abbrev pub SetsLines : Call → Type 0
SetsLines (call.SetLines lines cursor) = Unit {0}
SetsLines made = ⊥

-- The call is left out of a text that can be edited: it would break a single line, or what it types
-- doesn't fit, or what it inserts at several positions, or as lines, doesn't fit as a whole.
abbrev pub is_left_out : State → Call → Bool
is_left_out state (call.InsertChar c) = (breaks_line c && state.settings.single_line) || has_no_room state
is_left_out state call.InsertNewline = state.settings.single_line || has_no_room state
is_left_out state call.InsertTab = has_no_room state
is_left_out state call.DuplicateLine = state.settings.single_line || not (fits_duplicate state)
is_left_out state call.IndentLines = not (fits_indent state)
is_left_out state (call.ReplaceAll text) = not (fits_each state (replaceable state) (admitted state (fragment_symbols (chars text.now))))
is_left_out state made = false

-- The call is left out, or it would set several lines in a single one, or it edits a text that is read
-- only, where lines may be set.
abbrev pub is_barred : State → Call → Bool
is_barred state (call.SetLines lines cursor) = bars_lines state (lines_of lines.now)
is_barred state made = is_left_out state made || (edits made && state.settings.read_only)

-- the same of each call that may be left out for more than one reason
abbrev pub bars_character : State → ℕ → Bool
bars_character state c = is_barred state (call.InsertChar c)

abbrev pub bars_break : State → Bool
bars_break state = is_barred state call.InsertNewline

abbrev pub bars_tab : State → Bool
bars_tab state = is_barred state call.InsertTab

abbrev pub bars_duplicate : State → Bool
bars_duplicate state = is_barred state call.DuplicateLine

abbrev pub bars_indent : State → Bool
bars_indent state = is_barred state call.IndentLines

abbrev pub bars_each : State → Bor (List ℕ) → Bool
bars_each state text = is_barred state (call.ReplaceAll text)

-- the state after such a call: `cut` copies, and any other changes nothing
abbrev pub barred_after : State → Call → State
barred_after state call.Cut = selection_copied state
barred_after state made = state
