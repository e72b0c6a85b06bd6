-- What changed in a text, as values that lead from the old text to the new one; and a log of them.
use Rattle.std.specs.Prelude.{ℕ, suc, ◌+◌, ◌-◌, nat_lt, List, [], ◌∷◌, ◌++◌, length, take, Option, None, Some, if◌then◌else◌}
use Rattle.std.specs.Char.{len_utf8}
use Rattle.textarea_text.specs.Place.{Place, changed, line_of, place_of}
use Rattle.textarea_text.specs.Splice.{Splice, applied, place_before}
use Rattle.textarea_text.specs.Text.{Symbol, joined, lines, lines_of}
use Rattle.textarea_change.specs.declared.change.ChangeUnit.{ChangeUnit}
use Rattle.textarea_change.specs.declared.change.ChangeUnit.TheVariants.{Bytes, Characters, Utf16}
use Rattle.textarea_change.specs.declared.change.TextChange.{TextChange}

-- a change: from its start up to its end, both in the text before it, there are these lines instead
pub record ChangeView : Type 0 where
  pub start : Place
  pub end : Place
  pub lines : List (List ℕ)

-- a `TextChange` without what its callers don't use: its lines as characters
abbrev pub change_view : TextChange → ChangeView
change_view change = record { start = change.start; end = change.end; lines = lines_of change.lines.items }

-- ---- columns in units

-- the number of units of a character
abbrev pub width_in : ChangeUnit → ℕ → ℕ
width_in Characters c = 1
width_in Bytes c = len_utf8 c
width_in Utf16 c = if nat_lt c 0x1_0000 then 1 else 2

-- the number of units of all these characters
abbrev pub unit_count : ChangeUnit → List ℕ → ℕ
unit_count unit [] = 0
unit_count unit (c ∷ cs) = width_in unit c + unit_count unit cs

-- the position with its column in units
abbrev pub place_in_unit : ChangeUnit → List (List ℕ) → Place → Place
place_in_unit Characters rows place = place
place_in_unit Bytes rows place = (place.0, unit_count Bytes (take place.1 (line_of rows place.0)))
place_in_unit Utf16 rows place = (place.0, unit_count Utf16 (take place.1 (line_of rows place.0)))

-- the column in characters of a column in units: the number of characters that end at it or before
abbrev pub column_from : ChangeUnit → List ℕ → ℕ → ℕ
column_from unit [] units = 0
column_from unit (c ∷ cs) units =
    if nat_lt units (width_in unit c) then 0 else suc (column_from unit cs (units - width_in unit c))

-- the position with its column in characters
abbrev pub place_from_unit : ChangeUnit → List (List ℕ) → Place → Place
place_from_unit Characters rows place = place
place_from_unit Bytes rows place = (place.0, column_from Bytes (line_of rows place.0) place.1)
place_from_unit Utf16 rows place = (place.0, column_from Utf16 (line_of rows place.0) place.1)

-- ---- changes of a text

-- the text after the change
unfoldable pub changed_by : ChangeUnit → List Symbol → ChangeView → List Symbol
changed_by unit text change =
    changed text (place_from_unit unit (lines text) change.start) (place_from_unit unit (lines text) change.end) (joined change.lines)

-- the text after all the changes, one after another
abbrev pub changed_by_all : ChangeUnit → List Symbol → List ChangeView → List Symbol
changed_by_all unit text [] = text
changed_by_all unit text (change ∷ rest) = changed_by_all unit (changed_by unit text change) rest

-- the lines that a splice inserts: one empty line if it removes symbols
abbrev pub inserted_lines : Splice → List (List ℕ)
inserted_lines splice = lines (if splice.inserts then splice.symbols else [])

-- a splice as a change: its end is the end of what it removes
abbrev pub change_of : ChangeUnit → List Symbol → Splice → ChangeView
change_of unit text splice = record {
  start = place_in_unit unit (lines text) splice.place;
  end = place_in_unit unit (lines text) (place_before splice);
  lines = inserted_lines splice;
}

-- the change of the whole text to these lines
abbrev pub whole_change : ChangeUnit → List Symbol → List (List ℕ) → ChangeView
whole_change unit text rows = record {
  start = (0, 0);
  end = place_in_unit unit (lines text) (place_of text (length text));
  lines = rows;
}

-- ---- the log

-- the changes since they were last taken, and the unit of their columns; none are kept without one
pub record LoggedChanges : Type 0 where
  pub unit : Option ChangeUnit
  pub made : List ChangeView

abbrev pub no_changes : Option ChangeUnit → LoggedChanges
no_changes unit = record { unit = unit; made = [] }

-- what is kept of a splice of this text
abbrev pub splice_changes : Option ChangeUnit → List Symbol → Splice → List ChangeView
splice_changes None text splice = []
splice_changes (Some unit) text splice = change_of unit text splice ∷ []

-- what is kept of lines that replace this text
abbrev pub line_changes : Option ChangeUnit → List Symbol → List (List ℕ) → List ChangeView
line_changes None text rows = []
line_changes (Some unit) text rows = whole_change unit text rows ∷ []

-- the log with more changes
abbrev pub with_more : LoggedChanges → List ChangeView → LoggedChanges
with_more changes more = record changes { made = changes.made ++ more }

-- the log after a splice of this text
abbrev pub with_splice : LoggedChanges → List Symbol → Splice → LoggedChanges
with_splice changes text splice = with_more changes (splice_changes changes.unit text splice)

-- the log after all lines of this text were replaced by these
abbrev pub with_lines_replaced : LoggedChanges → List Symbol → List (List ℕ) → LoggedChanges
with_lines_replaced changes text rows = with_more changes (line_changes changes.unit text rows)

-- what is kept of splices of this text, one after another
abbrev pub splices_changes : Option ChangeUnit → List Symbol → List Splice → List ChangeView
splices_changes unit text [] = []
splices_changes unit text (splice ∷ rest) =
    splice_changes unit text splice ++ splices_changes unit (applied text splice) rest
