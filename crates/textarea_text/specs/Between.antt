-- The text between two positions, and the nearest position of lines.
use Rattle.std.specs.Prelude.{ℕ, ◌-◌, List, take, drop, length, min}
use Rattle.textarea_text.specs.Text.{Symbol}
use Rattle.textarea_text.specs.Place.{Place, index_of, last_row, line_of}

-- the symbols of the text between two positions
abbrev pub symbols_between : List Symbol → Place → Place → List Symbol
symbols_between text from to = take (index_of text to - index_of text from) (drop (index_of text from) text)

-- the nearest position: the row at most the last, the column at most its line's length
abbrev pub clip : List (List ℕ) → Place → Place
clip rows place =
    let row = min place.0 (last_row rows) in
    (row, min place.1 (length (line_of rows row)))
