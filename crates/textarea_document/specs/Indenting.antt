-- Lines that are indented and outdented: the text at their starts is replaced, in one group.
use Rattle.std.specs.Prelude.{Bool, ℕ, ◌+◌, ◌-◌, ◌==◌, ◌&&◌, not, nat_le, true, false, List, [], ◌∷◌, ◌++◌, length, take, drop, replicate, is_some, Option, Some, None, option_map, if◌then◌else◌}
use Rattle.textarea_text.specs.Between.{clip}
use Rattle.textarea_text.specs.Place.{Place, line_of}
use Rattle.textarea_text.specs.Splice.{Splice}
use Rattle.textarea_text.specs.Text.{characters, lines}
use Rattle.textarea_clusters.specs.Stops.{column_back}
use Rattle.textarea_data.specs.declared.cursor.CursorUnit.{CursorUnit}
use Rattle.textarea_data.specs.declared.cursor.CursorUnit.TheVariants as unit
use Rattle.textarea_data.specs.declared.range.AtomicRange.{AtomicRange}
use Rattle.textarea_data.specs.declared.range.AtomicDeleteDirection.TheVariants.{Forward}
use Rattle.textarea_ranges.specs.Lookup.{range_at_place}
use Rattle.textarea_document.specs.DocumentState.{DocumentState}
use Rattle.textarea_document.specs.Outcomes.{after_move}
use Rattle.textarea_document.specs.Ranges.{anchored}
use Rattle.textarea_document.specs.Replacing.{all_replaced, all_splices}
use Rattle.textarea_document.specs.Selection.{first_selected_row, is_selected, last_selected_row}

-- ---- what is replaced at the start of a line

-- no range has the character after the position
abbrev pub is_free : List AtomicRange → Place → Bool
is_free ranges place = not (is_some (range_at_place ranges place Forward))

-- the character after the position is a space, and no range has it
abbrev pub is_free_space : List AtomicRange → Place → ℕ → Bool
is_free_space ranges place c = c == 32 && is_free ranges place

-- the number of spaces at the start of these characters, which are those from the column on, up to
-- the first that a range has
abbrev pub free_spaces : List AtomicRange → ℕ → ℕ → List ℕ → ℕ
free_spaces ranges row column [] = 0
free_spaces ranges row column (c ∷ line) =
    if is_free_space ranges (row, column) c then free_spaces ranges row (column + 1) line + 1 else 0

abbrev pub begins_with_tab : List ℕ → Bool
begins_with_tab [] = false
begins_with_tab (c ∷ line) = c == 9

-- The number of characters that outdenting removes from the start of the row's line: the tab that
-- it begins with, or its spaces, at most the tab length; in any case no character of a range.
abbrev pub outdent_columns : List AtomicRange → ℕ → ℕ → List ℕ → ℕ
outdent_columns ranges tab_length row line =
    if begins_with_tab line && is_free ranges (row, 0) then 1 else free_spaces ranges row 0 (take tab_length line)

-- a number but 0
abbrev pub unless_zero : ℕ → Option ℕ
unless_zero count = if count == 0 then None else Some count

-- indenting replaces no character, and leaves an empty line; at tab length 0 it leaves each
abbrev pub indent_columns : ℕ → List ℕ → Option ℕ
indent_columns tab_length [] = None
indent_columns tab_length (c ∷ line) = if tab_length == 0 then None else Some 0

-- so many characters or, if the cursor goes by clusters, the most of them after which it can be
abbrev pub whole_columns : CursorUnit → List AtomicRange → ℕ → List ℕ → ℕ → ℕ
whole_columns unit.Character ranges row line count = count
whole_columns unit.Cluster ranges row line count = column_back ranges line row count

-- how many characters are replaced in a line that is outdented, by this unit of the cursor, or indented
abbrev pub shift_columns : Option CursorUnit → List AtomicRange → ℕ → ℕ → List ℕ → Option ℕ
shift_columns None ranges tab_length row line = indent_columns tab_length line
shift_columns (Some by) ranges tab_length row line =
    unless_zero (whole_columns by ranges row line (outdent_columns ranges tab_length row line))

-- whether the row is that of a line of the selection, or the cursor's without one
abbrev pub is_selected_row : DocumentState → ℕ → Bool
is_selected_row document row = nat_le (first_selected_row document) row && nat_le row (last_selected_row document)

-- how many characters at the start of the row's line are replaced; none if the line is left. The lines
-- are outdented, by the cursor's unit if there is one, or indented
abbrev pub replaced_columns : DocumentState → Option CursorUnit → ℕ → List ℕ → Option ℕ
replaced_columns document outdents row line =
    let tab_length = document.layout.settings.tab_len in
    if is_selected_row document row then shift_columns outdents document.ranges tab_length row line else None

-- ---- the stretches of the text

-- this number of symbols from an index on
abbrev pub stretch_from : ℕ → Option ℕ → List (ℕ × ℕ)
stretch_from before None = []
stretch_from before (Some count) = (before, before + count) ∷ []

-- those of lines, the first of which has this row and begins after `before` symbols
abbrev pub stretches_from : DocumentState → Option CursorUnit → ℕ → ℕ → List (List ℕ) → List (ℕ × ℕ)
stretches_from document outdents row before [] = []
stretches_from document outdents row before (line ∷ rest) =
    stretch_from before (replaced_columns document outdents row line)
    ++ stretches_from document outdents (row + 1) (before + length line + 1) rest

abbrev pub line_stretches : DocumentState → Option CursorUnit → List (ℕ × ℕ)
line_stretches document outdents = stretches_from document outdents 0 0 (lines document.text)

-- whether a line is indented or outdented
abbrev pub shifts_lines : DocumentState → Option CursorUnit → Bool
shifts_lines document outdents = not (length (line_stretches document outdents) == 0)

-- ---- the lines after it

-- a line with the tab in place of this many characters at its start
abbrev pub with_start : List ℕ → Option ℕ → List ℕ → List ℕ
with_start tab None line = line
with_start tab (Some count) line = tab ++ drop count line

-- those of lines, the first of which has this row
abbrev pub with_starts : DocumentState → Option CursorUnit → List ℕ → ℕ → List (List ℕ) → List (List ℕ)
with_starts document outdents tab row [] = []
with_starts document outdents tab row (line ∷ rest) =
    with_start tab (replaced_columns document outdents row line) line
    ∷ with_starts document outdents tab (row + 1) rest

-- ---- positions after it

-- A column after this many characters at the line's start were replaced by `columns` others: it
-- stays before the same character. At the start of a selection column 0 stays, so that what is
-- inserted there is selected too.
abbrev pub shifted_column : Bool → ℕ → ℕ → ℕ → ℕ
shifted_column stays count columns column =
    if stays && column == 0 then 0 else column - count + columns

abbrev pub shifted_by : Option ℕ → Bool → ℕ → Place → Place
shifted_by None stays columns place = place
shifted_by (Some count) stays columns place = (place.0, shifted_column stays count columns place.1)

abbrev pub shifted_place : DocumentState → Option CursorUnit → ℕ → Place → Place
shifted_place document outdents columns place =
    shifted_by (replaced_columns document outdents place.0 (line_of (lines document.text) place.0))
    (is_selected document) columns place

-- ---- the documents after it

-- the cursor and the anchor are at the positions nearest to these
abbrev pub moved_near : DocumentState → Place → Option Place → DocumentState
moved_near document cursor anchor =
    anchored (after_move document (clip (lines document.text) cursor) None) anchor

-- the stretches are replaced by the tab, and cursor and anchor move with the text; without any
-- nothing changes
unfoldable pub shifted_over : DocumentState → Option CursorUnit → List (ℕ × ℕ) → List ℕ → ℕ → DocumentState
shifted_over document outdents [] tab now = document
shifted_over document outdents (stretch ∷ rest) tab now =
    let place = shifted_place document outdents (length tab) in
    moved_near (all_replaced document (stretch ∷ rest) (characters tab) now) (place document.cursor) (option_map place document.anchor)

abbrev pub lines_shifted : DocumentState → Option CursorUnit → List ℕ → ℕ → DocumentState
lines_shifted document outdents tab now =
    shifted_over document outdents (line_stretches document outdents) tab now

-- a tab character, or as many spaces as the tab length
abbrev pub tab_characters : Bool → ℕ → List ℕ
tab_characters hard tab_length = if hard then 9 ∷ [] else replicate tab_length 32

abbrev pub tab_of : DocumentState → Bool → List ℕ
tab_of document hard = tab_characters hard document.layout.settings.tab_len

-- a tab is inserted at the start of each line of the selection, or of the cursor's line without one
abbrev pub lines_indented : DocumentState → Bool → ℕ → DocumentState
lines_indented document hard now = lines_shifted document None (tab_of document hard) now

-- a tab, or spaces in its place, are removed there
abbrev pub lines_outdented : DocumentState → CursorUnit → ℕ → DocumentState
lines_outdented document by now = lines_shifted document (Some by) [] now

-- ---- their splices

abbrev pub shift_splices : DocumentState → Option CursorUnit → List ℕ → ℕ → List Splice
shift_splices document outdents tab now =
    all_splices document (line_stretches document outdents) (characters tab) now

abbrev pub indent_splices : DocumentState → Bool → ℕ → List Splice
indent_splices document hard now = shift_splices document None (tab_of document hard) now

abbrev pub outdent_splices : DocumentState → CursorUnit → ℕ → List Splice
outdent_splices document by now = shift_splices document (Some by) [] now
