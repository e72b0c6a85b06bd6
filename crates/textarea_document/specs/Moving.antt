-- Lines that change places with the line above or below them: that line is removed, and inserted on
-- their other side, in one group.
use Rattle.std.specs.Prelude.{Bool, ℕ, ◌+◌, ◌-◌, ◌==◌, nat_lt, not, List, [], ◌∷◌, ◌++◌, length, take, drop, option_map, if◌then◌else◌}
use Rattle.textarea_text.specs.Between.{clip}
use Rattle.textarea_text.specs.Place.{Place, last_row, line_end, line_of}
use Rattle.textarea_text.specs.Splice.{Splice}
use Rattle.textarea_text.specs.Text.{Symbol, following, leading, lines}
use Rattle.textarea_document.specs.DocumentState.{DocumentState}
use Rattle.textarea_document.specs.Indenting.{moved_near}
use Rattle.textarea_document.specs.Replacing.{begun, ended_after, stretch_removal, stretch_removed, stretch_replaced, stretch_splices}
use Rattle.textarea_document.specs.Selection.{first_selected_row, last_selected_row}

-- whether there is a line above those of the selection, or above the cursor's without one
abbrev pub has_line_above : DocumentState → Bool
has_line_above document = not (first_selected_row document == 0)

-- whether there is one below them
abbrev pub has_line_below : DocumentState → Bool
has_line_below document = nat_lt (last_selected_row document + 1) (length (lines document.text))

-- ---- the lines after it

-- the lines from the first row to the last
abbrev pub selected_lines : List (List ℕ) → ℕ → ℕ → List (List ℕ)
selected_lines rows first last = drop first (take (last + 1) rows)

-- these pass the line above them, if there is one, which is then after them
abbrev pub with_lines_up : List (List ℕ) → ℕ → ℕ → List (List ℕ)
with_lines_up rows first last =
    if first == 0 then rows
    else take (first - 1) rows ++ (selected_lines rows first last ++ (line_of rows (first - 1) ∷ drop (last + 1) rows))

-- these pass the line below them, if there is one, which is then before them
abbrev pub with_lines_down : List (List ℕ) → ℕ → ℕ → List (List ℕ)
with_lines_down rows first last =
    if nat_lt (last + 1) (length rows)
    then take first rows ++ (line_of rows (last + 1) ∷ (selected_lines rows first last ++ drop (last + 2) rows))
    else rows

-- ---- positions after it

abbrev pub row_up : Place → Place
row_up place = (place.0 - 1, place.1)

-- The position one row further down. From the text's last row, in which a selection ends at column
-- 0, it is the end of the line above, the last of the selection's lines, which is then there.
abbrev pub row_down : List (List ℕ) → Place → Place
row_down rows place =
    (place.0 + 1, if place.0 == last_row rows then length (line_of rows (place.0 - 1)) else place.1)

-- ---- the documents after it

-- the text between two positions is removed, and then the symbols are inserted at the position
-- nearest to another one, in one group
unfoldable pub relocated : DocumentState → Place → Place → Place → List Symbol → ℕ → DocumentState
relocated document start stop place symbols now =
    let between = stretch_removed (begun document) start stop now in
    let there = clip (lines between.text) place in
    ended_after document (stretch_replaced between there there symbols now)

-- the line above is inserted after the last of the lines, with a break before it
abbrev pub line_above_relocated : DocumentState → ℕ → DocumentState
line_above_relocated document now =
    let rows = lines document.text in
    let first = first_selected_row document in
    let last = last_selected_row document in
    relocated document (first - 1, 0) (first, 0) (last - 1, length (line_of rows last))
    (following (line_of rows (first - 1) ∷ [])) now

-- the line below is inserted before the first of the lines, with a break after it
abbrev pub line_below_relocated : DocumentState → ℕ → DocumentState
line_below_relocated document now =
    let rows = lines document.text in
    let last = last_selected_row document in
    relocated document (line_end rows last) (line_end rows (last + 1)) (first_selected_row document, 0)
    (leading (line_of rows (last + 1) ∷ [])) now

-- and cursor and anchor move with the lines
unfoldable pub swapped_up : DocumentState → ℕ → DocumentState
swapped_up document now =
    moved_near (line_above_relocated document now) (row_up document.cursor) (option_map row_up document.anchor)

unfoldable pub swapped_down : DocumentState → ℕ → DocumentState
swapped_down document now =
    let down = row_down (lines document.text) in
    moved_near (line_below_relocated document now) (down document.cursor) (option_map down document.anchor)

-- the selection's lines, or the cursor's line, change places with the line above, if there is one
abbrev pub lines_moved_up : DocumentState → ℕ → DocumentState
lines_moved_up document now =
    if first_selected_row document == 0 then document else swapped_up document now

-- they change places with the line below, if there is one
abbrev pub lines_moved_down : DocumentState → ℕ → DocumentState
lines_moved_down document now =
    if has_line_below document then swapped_down document now else document

-- ---- their splices

abbrev pub relocation_splices : DocumentState → Place → Place → Place → List Symbol → ℕ → List Splice
relocation_splices document start stop place symbols now =
    let between = stretch_removed (begun document) start stop now in
    let there = clip (lines between.text) place in
    stretch_removal (begun document) start stop ++ stretch_splices between there there symbols now

abbrev pub move_up_splices : DocumentState → ℕ → List Splice
move_up_splices document now =
    let rows = lines document.text in
    let first = first_selected_row document in
    let last = last_selected_row document in
    if first == 0 then []
    else relocation_splices document (first - 1, 0) (first, 0) (last - 1, length (line_of rows last))
    (following (line_of rows (first - 1) ∷ [])) now

abbrev pub move_down_splices : DocumentState → ℕ → List Splice
move_down_splices document now =
    let rows = lines document.text in
    let last = last_selected_row document in
    if has_line_below document
    then relocation_splices document (line_end rows last) (line_end rows (last + 1))
    (first_selected_row document, 0) (leading (line_of rows (last + 1) ∷ [])) now
    else []
