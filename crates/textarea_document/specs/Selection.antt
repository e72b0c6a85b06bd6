-- The selection of a document.
use Rattle.std.specs.Prelude.{Bool, ℕ, ◌+◌, ◌-◌, ◌==◌, ◌&&◌, nat_lt, false, List, ◌++◌, take, drop, Option, Some, None, option_map, unwrap_or, if◌then◌else◌}
use Rattle.textarea_text.specs.Text.{Symbol, following, lines}
use Rattle.textarea_text.specs.Place.{Place, is_before, line_end}
use Rattle.textarea_text.specs.Splice.{Splice}
use Rattle.textarea_text.specs.Between.{symbols_between}
use Rattle.textarea_document.specs.DocumentState.{DocumentState}
use Rattle.textarea_document.specs.Edits.{between_removed, insertion, removed_symbols}
use Rattle.textarea_document.specs.Outcomes.{after_edit, after_move}

-- where the selection began; the cursor if there is none
abbrev pub origin : DocumentState → Place
origin document = unwrap_or document.anchor document.cursor

-- the two ends of the selection, the first one first
abbrev pub selection_start : DocumentState → Place
selection_start document =
    if is_before document.cursor (origin document) then document.cursor else origin document

abbrev pub selection_end : DocumentState → Place
selection_end document =
    if is_before document.cursor (origin document) then origin document else document.cursor

-- the ends of a selection, even an empty one
abbrev pub selection_by : Option Place → DocumentState → Option (Place × Place)
selection_by None document = None
selection_by (Some anchor) document = Some (selection_start document, selection_end document)

abbrev pub selection : DocumentState → Option (Place × Place)
selection document = selection_by document.anchor document

-- whether a symbol is selected
abbrev pub is_selected : DocumentState → Bool
is_selected document = is_before (selection_start document) (selection_end document)

abbrev pub selected : DocumentState → List Symbol
selected document = symbols_between document.text (selection_start document) (selection_end document)

-- the selected symbols are removed, if there are any
abbrev pub selected_removed : DocumentState → ℕ → DocumentState
selected_removed document now =
    if is_selected document
    then between_removed document (selection_start document) (selection_end document) now else document

-- the symbols that this removes: those selected, and those of the ranges that they overlap
abbrev pub selected_symbols : DocumentState → List Symbol
selected_symbols document = removed_symbols document (selection_start document) (selection_end document)

-- ---- its lines

-- The rows of the selection's lines, those of which it holds a character or the break; without a
-- selection that of the cursor. A selection that begins in a line above and ends at column 0 holds
-- nothing of its last line.
abbrev pub first_selected_row : DocumentState → ℕ
first_selected_row document = (selection_start document).0

abbrev pub last_selected_row_by : Place → Place → ℕ
last_selected_row_by start stop = if nat_lt start.0 stop.0 && stop.1 == 0 then stop.0 - 1 else stop.0

abbrev pub last_selected_row : DocumentState → ℕ
last_selected_row document = last_selected_row_by (selection_start document) (selection_end document)

-- the splice that duplicates the lines from the first row to the last: at the last one's end these
-- lines are inserted, each with a break before it
abbrev pub duplication : List Symbol → ℕ → ℕ → Splice
duplication text first last =
    insertion (line_end (lines text) last) (following (drop first (take (last + 1) (lines text))))

-- the splice that duplicates the selection's lines, or the cursor's line
abbrev pub selection_duplication : DocumentState → Splice
selection_duplication document =
    duplication document.text (first_selected_row document) (last_selected_row document)

-- the lines up to the last row, and then those from the first row on
abbrev pub with_lines_again : List (List ℕ) → ℕ → ℕ → List (List ℕ)
with_lines_again rows first last = take (last + 1) rows ++ drop first rows

abbrev pub rows_down : ℕ → Place → Place
rows_down count place = (place.0 + count, place.1)

-- these lines are duplicated, not as typed: cursor and anchor move down into the copy, and keep
-- their columns; a run of typing ends
abbrev pub lines_duplicated : DocumentState → ℕ → DocumentState
lines_duplicated document now =
    let down = rows_down (last_selected_row document + 1 - first_selected_row document) in
    after_move (after_edit document (selection_duplication document) false now) (down document.cursor) (option_map down document.anchor)
