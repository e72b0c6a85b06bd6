-- The targets of cursor moves.
use Rattle.std.specs.Prelude.{◌≡◌, ℕ, ◌+◌, ◌-◌, ◌==◌, nat_lt, ◌&&◌, Bool, List, length, Option, Some, None, is_some, unwrap_or, if◌then◌else◌}
use Rattle.textarea_text.specs.Text.{Symbol, lines}
use Rattle.textarea_text.specs.Place.{Place, index_of, last_row, line_end, line_of, place_of}
use Rattle.textarea_text.specs.Nearest.{least_below}
use Rattle.textarea_text.specs.Words.{next_word_start, next_word_last, previous_word_start, next_past_word}
use Rattle.textarea_text.specs.Paragraphs.{next_paragraph_start, previous_paragraph_start}
use Rattle.textarea_text.specs.Between.{clip}
use Rattle.textarea_data.specs.declared.cursor.CursorMove.{CursorMove}
use Rattle.textarea_data.specs.declared.cursor.CursorMove.TheVariants.{Forward, Back, Up, Down, Head, End, Top, Bottom, WordForward, WordEnd, WordBack, ParagraphForward, ParagraphBack, Jump}
use Rattle.textarea_document.specs.DocumentRows.{IsAboveCursor, IsBelowCursor}
use Rattle.textarea_document.specs.DocumentState.{DocumentState}

-- ---- the neighbours of a position

-- the position one symbol on: none at the text's end
abbrev pub next_place : List Symbol → Place → Option Place
next_place text place =
    if nat_lt (index_of text place) (length text)
    then Some (place_of text (index_of text place + 1)) else None

-- the position one symbol back: none at the text's start
abbrev pub previous_place : List Symbol → Place → Option Place
previous_place text place =
    if index_of text place == 0 then None else Some (place_of text (index_of text place - 1))

-- ---- words

-- the found column, in the line; the other position if none was found
abbrev pub place_or : Option ℕ → ℕ → Place → Place
place_or None row other = other
place_or (Some column) row other = (row, column)

-- the start of the next line, or the end of the last line
abbrev pub next_head : List (List ℕ) → ℕ → Place
next_head rows row = if nat_lt (row + 1) (length rows) then (row + 1, 0) else line_end rows row

-- the end of the previous line, or the text's start in the first line
abbrev pub previous_end : List (List ℕ) → ℕ → Place
previous_end rows row = if row == 0 then (0, 0) else line_end rows (row - 1)

-- the line is below the other and has a word
abbrev pub is_later_word_row : List (List ℕ) → ℕ → ℕ → Bool
is_later_word_row rows start row = nat_lt start row && is_some (next_word_last (line_of rows row) 0)

-- the first line below this one that has a word
abbrev pub next_word_row : List (List ℕ) → ℕ → Option ℕ
next_word_row rows start = least_below (is_later_word_row rows start) (length rows)

-- the last character of the first word of the found line, or the text's end if none was found
abbrev pub first_word_end : List (List ℕ) → Option ℕ → Place
first_word_end rows None = line_end rows (last_row rows)
first_word_end rows (Some row) =
    place_or (next_word_last (line_of rows row) 0) row (line_end rows (last_row rows))

-- the start of the next word of the line, otherwise the next line's start, otherwise the line's end
abbrev pub word_forward : List (List ℕ) → Place → Place
word_forward rows place =
    place_or (next_word_start (line_of rows place.0) place.1) place.0 (next_head rows place.0)

-- the first position after this one with a word's last character, or else the text's end
abbrev pub word_end : List (List ℕ) → Place → Place
word_end rows place =
    let later = first_word_end rows (next_word_row rows place.0) in
    place_or (next_word_last (line_of rows place.0) (place.1 + 1)) place.0 later

-- the start of the word before the position in its line, otherwise the previous line's end,
-- otherwise the text's start
abbrev pub word_back : List (List ℕ) → Place → Place
word_back rows place =
    place_or (previous_word_start (line_of rows place.0) place.1) place.0
    (previous_end rows place.0)

-- ---- paragraphs

-- the column in the line where the next paragraph begins, or in the last line
abbrev pub paragraph_forward : List (List ℕ) → Place → Place
paragraph_forward rows place =
    clip rows (unwrap_or (next_paragraph_start rows place.0) (last_row rows), place.1)

-- the column in the nearest line above where a paragraph begins, or in the first; none from there
abbrev pub paragraph_back : List (List ℕ) → Place → Option Place
paragraph_back rows place =
    if place.0 == 0 then None
    else Some (clip rows (unwrap_or (previous_paragraph_start rows place.0) 0, place.1))

-- ---- all moves

-- The target of a move from a cursor, if it has one and depends only on the text and the cursor:
-- that of Up, Down and InViewport depends on visual rows.
abbrev pub target : List Symbol → Place → CursorMove → Option Place
target text cursor Forward = next_place text cursor
target text cursor Back = previous_place text cursor
target text cursor Head = Some (cursor.0, 0)
target text cursor End = Some (line_end (lines text) cursor.0)
target text cursor Top = Some (clip (lines text) (0, cursor.1))
target text cursor Bottom = Some (clip (lines text) (last_row (lines text), cursor.1))
target text cursor WordForward = Some (word_forward (lines text) cursor)
target text cursor WordEnd = Some (word_end (lines text) cursor)
target text cursor WordBack = Some (word_back (lines text) cursor)
target text cursor ParagraphForward = Some (paragraph_forward (lines text) cursor)
target text cursor ParagraphBack = paragraph_back (lines text) cursor
target text cursor (Jump row column) = Some (clip (lines text) (row, column))
target text cursor visual = None

-- The target of a move of a document's cursor, if it has one: for Up the position one visual row
-- above the cursor, for Down the one below it. InViewport has none, as a document has no viewport.
abbrev pub IsDocumentTarget : DocumentState → CursorMove → Option Place → Type 0
IsDocumentTarget document Up found = IsAboveCursor document found
IsDocumentTarget document Down found = IsBelowCursor document found
IsDocumentTarget document other found = found ≡ target document.text document.cursor other

-- ---- the ends of a word's removal

-- the start of the word before the column, or the line's start
abbrev pub word_start_before : List ℕ → ℕ → ℕ
word_start_before line column = unwrap_or (previous_word_start line column) 0

-- the end of the first word that ends after the column and before the line's end, or the line's end
abbrev pub word_end_after : List ℕ → ℕ → ℕ
word_end_after line column = unwrap_or (next_past_word line column) (length line)
