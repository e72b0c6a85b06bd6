-- The documents after edits, when nothing is selected.
use Rattle.std.specs.Prelude.{◌≡◌, ◌≢◌, ◌<◌, Bool, true, false, ℕ, ◌-◌, ◌==◌, List, [], ◌∷◌, length, take, drop, if◌then◌else◌, Option, None, Some}
use Rattle.textarea_text.specs.Text.{Symbol, Character, Break, lines}
use Rattle.textarea_text.specs.Place.{Place, IsPlace, end, index_of, line_end, place_of}
use Rattle.textarea_text.specs.Splice.{Splice}
use Rattle.textarea_text.specs.Between.{symbols_between}
use Rattle.textarea_data.specs.declared.range.AtomicRange.{AtomicRange}
use Rattle.textarea_data.specs.declared.range.AtomicCursorBias.TheVariants.{Forward}
use Rattle.textarea_data.specs.declared.range.AtomicDeleteDirection.{AtomicDeleteDirection}
use Rattle.textarea_data.specs.declared.range.AtomicDeleteDirection.TheVariants.{Backward as DeleteBackward, Forward as DeleteForward}
use Rattle.textarea_ranges.specs.Lookup.{range_at_place, moved_out, range_start, range_end, widened}
use Rattle.textarea_document.specs.DocumentState.{DocumentState}
use Rattle.textarea_document.specs.Outcomes.{after_edit, unanchored}

-- ---- insertion positions and removed ranges

-- the insertion position: the cursor, or the end of the range that strictly contains it
abbrev pub insertion_place : DocumentState → Place
insertion_place document = moved_out document.ranges document.cursor Forward

-- the range at the cursor in this direction: before it, or after it
abbrev pub range_at_cursor : DocumentState → AtomicDeleteDirection → Option AtomicRange
range_at_cursor document direction = range_at_place document.ranges document.cursor direction

abbrev pub range_before : DocumentState → Option AtomicRange
range_before document = range_at_cursor document DeleteBackward

abbrev pub range_after : DocumentState → Option AtomicRange
range_after document = range_at_cursor document DeleteForward

-- the number of symbols before the cursor
abbrev pub cursor_index : DocumentState → ℕ
cursor_index document = index_of document.text document.cursor

abbrev pub is_at_start : DocumentState → Bool
is_at_start document = cursor_index document == 0

abbrev pub is_at_end : DocumentState → Bool
is_at_end document = cursor_index document == length document.text

-- ---- the splices

-- the symbols, inserted at the position
abbrev pub insertion : Place → List Symbol → Splice
insertion place symbols = record { place = place; symbols = symbols; inserts = true }

-- the text between two positions, removed
abbrev pub removal : List Symbol → Place → Place → Splice
removal text from to = record { place = from; symbols = symbols_between text from to; inserts = false }

-- the same, widened over each atomic range that it overlaps
abbrev pub widened_removal : DocumentState → Place → Place → Splice
widened_removal document from to =
    let wide = widened document.ranges from to in
    removal document.text wide.0 wide.1

-- the one symbol of this index, removed
abbrev pub symbol_removal : List Symbol → ℕ → Splice
symbol_removal text index =
    record { place = place_of text index; symbols = take 1 (drop index text); inserts = false }

-- the break at the end of the row's line, removed
abbrev pub break_removal : List Symbol → ℕ → Splice
break_removal text row =
    record { place = line_end (lines text) row; symbols = Break ∷ []; inserts = false }

-- The steps: each insertion or removal of a call is one of these five. It inserts symbols at the
-- insertion position; removes the text between two positions, with the ranges that this overlaps;
-- or removes the symbol before the cursor, the one after it, or the break before the cursor's line.
pub data EditStep : Type 0 where
  Insert : List Symbol → EditStep
  Remove : Place → Place → EditStep
  RemoveBefore : EditStep
  RemoveAfter : EditStep
  RemoveBreak : EditStep

abbrev pub splice_of_step : DocumentState → EditStep → Splice
splice_of_step document (Insert symbols) = insertion (insertion_place document) symbols
splice_of_step document (Remove from to) = widened_removal document from to
splice_of_step document RemoveBefore = symbol_removal document.text (cursor_index document - 1)
splice_of_step document RemoveAfter = symbol_removal document.text (cursor_index document)
splice_of_step document RemoveBreak = break_removal document.text (document.cursor.0 - 1)

-- the condition of a step: there is a symbol to insert, or to remove; and a symbol beside the
-- cursor is removed only if there is no range at the cursor on that side
abbrev pub HasEffect : DocumentState → EditStep → Type 0
HasEffect document (Insert symbols) = 0 < length symbols
HasEffect document (Remove from to) =
    IsPlace document.text from × IsPlace document.text to
    × (index_of document.text from < index_of document.text to)
HasEffect document RemoveBefore = (range_before document ≡ None) × (cursor_index document ≢ 0)
HasEffect document RemoveAfter =
    (range_after document ≡ None) × (cursor_index document ≢ length document.text)
HasEffect document RemoveBreak = document.cursor.0 ≢ 0

-- the step is made and recorded, as typed or not. Each definition below does so, or keeps the text
abbrev pub stepped : DocumentState → EditStep → Bool → ℕ → DocumentState
stepped document step typed now = after_edit document (splice_of_step document step) typed now

-- ---- insertions

-- the character is inserted, as typed or not
abbrev pub character_inserted : DocumentState → ℕ → Bool → ℕ → DocumentState
character_inserted document c typed now = stepped document (Insert (Character c ∷ [])) typed now

abbrev pub break_inserted : DocumentState → ℕ → DocumentState
break_inserted document now = stepped document (Insert (Break ∷ [])) false now

-- whether there is a symbol
abbrev pub has_symbols : List Symbol → Bool
has_symbols [] = false
has_symbols (symbol ∷ symbols) = true

-- nothing is inserted or recorded: the cursor moves to the insertion position, nothing selected
abbrev pub nothing_inserted : DocumentState → DocumentState
nothing_inserted document = unanchored (record document { cursor = insertion_place document })

-- the symbols are inserted, not as typed; if there are none, nothing is
abbrev pub symbols_inserted : DocumentState → List Symbol → ℕ → DocumentState
symbols_inserted document [] now = nothing_inserted document
symbols_inserted document (symbol ∷ symbols) now =
    stepped document (Insert (symbol ∷ symbols)) false now

-- ---- removals

-- the text between the two positions, and the ranges that it overlaps, are removed, not as typed
unfoldable pub between_removed : DocumentState → Place → Place → ℕ → DocumentState
between_removed document from to now = stepped document (Remove from to) false now

-- the symbols that this removes
abbrev pub removed_symbols : DocumentState → Place → Place → List Symbol
removed_symbols document from to = (widened_removal document from to).symbols

-- the range is removed, if there is one; otherwise it is the other document
abbrev pub removed_range_or : Option AtomicRange → DocumentState → ℕ → DocumentState → DocumentState
removed_range_or None document now other = other
removed_range_or (Some range) document now other =
    between_removed document (range_start range) (range_end range) now

-- the range at the cursor in this direction is removed, if there is one
abbrev pub cursor_range_removed : DocumentState → AtomicDeleteDirection → ℕ → DocumentState
cursor_range_removed document direction now =
    removed_range_or (range_at_cursor document direction) document now document

-- the symbol before the cursor is removed, if there is one, as typed or not
abbrev pub symbol_removed_before : DocumentState → Bool → ℕ → DocumentState
symbol_removed_before document typed now =
    if is_at_start document then unanchored document else stepped document RemoveBefore typed now

-- the symbol after the cursor is removed, if there is one, as typed or not
abbrev pub symbol_removed_after : DocumentState → Bool → ℕ → DocumentState
symbol_removed_after document typed now =
    if is_at_end document then unanchored document else stepped document RemoveAfter typed now

-- the range at the cursor, backward, is removed, or else the symbol before the cursor
unfoldable pub removed_before : DocumentState → Bool → ℕ → DocumentState
removed_before document typed now =
    removed_range_or (range_before document) document now (symbol_removed_before document typed now)

-- the range at the cursor, forward, is removed, or else the symbol after the cursor
unfoldable pub removed_after : DocumentState → Bool → ℕ → DocumentState
removed_after document typed now =
    removed_range_or (range_after document) document now (symbol_removed_after document typed now)

-- the symbol is directly after the position, not the text's end, and ends at the other position
pub record IsSymbolAfter (text : List Symbol) (place to : Place) (symbol : Symbol) : Type 0 where
  pub index : index_of text place ≢ length text
  pub symbol_is : take 1 (drop (index_of text place) text) ≡ symbol ∷ []
  pub ends : to ≡ end place (symbol ∷ [])

-- the break before the cursor's line is removed, if there is one
abbrev pub break_removed : DocumentState → ℕ → DocumentState
break_removed document now =
    if document.cursor.0 == 0 then unanchored document else stepped document RemoveBreak false now
