-- The indent that a line break keeps.
use Rattle.std.specs.Prelude.{◌==◌, ◌&&◌, ◌||◌, ℕ, not, Bool, true, false, List, [], ◌∷◌, Option, Some, None, if◌then◌else◌, slice_get, take}
use Rattle.textarea_calls.specs.declared.action.Action.{Action}
use Rattle.textarea_calls.specs.declared.action.Action.TheVariants as action
use Rattle.textarea_data.specs.declared.input.Input.{Input}
use Rattle.textarea_document.specs.DocumentState.{DocumentState}
use Rattle.textarea_document.specs.Selection.{selection}
use Rattle.textarea_text.specs.Place.{Place}
use Rattle.textarea_text.specs.Text.{lines}
use Rattle.tui_textarea.specs.Input.{asked_by}

-- a space, 32, or a tab, 9
abbrev pub is_indent : ℕ → Bool
is_indent c = c == 32 || c == 9

-- the spaces and tabs that a line begins with
abbrev pub indentation : List ℕ → List ℕ
indentation [] = []
indentation (c ∷ cs) = if is_indent c then c ∷ indentation cs else []

-- whether an indent ends before this character, if this number of characters may still be taken
abbrev pub ends_indent : ℕ → ℕ → Bool
ends_indent room c = room == 0 || not (is_indent c)

-- a line feed, which is 10, and a line's indent up to a column; these characters are their own bytes
abbrev pub line_break_of : Option (List ℕ) → ℕ → List ℕ
line_break_of None column = 10 ∷ []
line_break_of (Some line) column = 10 ∷ take column (indentation line)

-- what breaks a line at a position
abbrev pub line_break_at : List (List ℕ) → Place → List ℕ
line_break_at rows place = line_break_of (slice_get rows place.0) place.1

-- where an edit begins: at the start of the selection, if one is open, or else at the cursor
abbrev pub edit_start_of : Option (Place × Place) → Place → Place
edit_start_of None cursor = cursor
edit_start_of (Some ends) cursor = ends.0

abbrev pub edit_start : DocumentState → Place
edit_start document = edit_start_of (selection document) document.cursor

-- what Enter inserts, if it keeps the indent
abbrev pub line_break : DocumentState → List ℕ
line_break document = line_break_at (lines document.text) (edit_start document)

-- whether an action breaks the line
abbrev pub is_newline : Action → Bool
is_newline action.InsertNewline = true
is_newline other = false

-- whether an input breaks the line and keeps its indent, where that is wanted or not; with Shift none
-- does
abbrev pub keeps_indent : Bool → Input → Bool
keeps_indent wanted input = wanted && (not input.shift && is_newline (asked_by input))
