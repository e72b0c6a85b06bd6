-- Whole characters: where the cursor and the anchor may be, and how far a removal reaches, in a text
-- area whose cursor goes by grapheme clusters.
use Rattle.std.specs.Prelude.{◌≡◌, ℕ, ◌+◌, ◌-◌, ◌==◌, All, true, false, List, [], ◌∷◌, Option, None, Some, IfSome, option_map, if◌then◌else◌}
use Rattle.textarea_text.specs.Place.{Place, end, is_before, place_of}
use Rattle.textarea_text.specs.Splice.{Splice}
use Rattle.textarea_text.specs.Text.{lines}
use Rattle.textarea_data.specs.declared.cursor.CursorUnit.{CursorUnit}
use Rattle.textarea_data.specs.declared.cursor.CursorUnit.TheVariants as unit
use Rattle.textarea_data.specs.declared.range.AtomicCursorBias.{AtomicCursorBias}
use Rattle.textarea_data.specs.declared.range.AtomicCursorBias.TheVariants.{Backward, Forward}
use Rattle.textarea_clusters.specs.Stops.{is_stop, stop_ahead, stop_back}
use Rattle.textarea_document.specs.DocumentState.{DocumentState}
use Rattle.textarea_document.specs.Replacing.{stretch_end, stretch_start}
use Rattle.tui_textarea.specs.State.{State, with_document}

-- ---- cursor and anchor

-- the position, or what replaces it if a cluster or a range strictly contains it: the last stop
-- before it, or the first one after it
abbrev pub stop_of : AtomicCursorBias → DocumentState → Place → Place
stop_of Backward document place = stop_back document.ranges (lines document.text) place
stop_of Forward document place = stop_ahead document.ranges (lines document.text) place

-- cursor and anchor are moved out of the clusters and ranges that strictly contain them, the anchor
-- backward
abbrev pub document_settled : AtomicCursorBias → DocumentState → DocumentState
document_settled bias document = record document {
  cursor = stop_of bias document document.cursor;
  anchor = option_map (stop_of Backward document) document.anchor;
}

abbrev pub settled_for : CursorUnit → AtomicCursorBias → State → State
settled_for unit.Character bias state = state
settled_for unit.Cluster bias state = with_document state (document_settled bias state.document)

-- the state after a call that led to this one: if the cursor goes by clusters, it and the anchor are
-- moved out of what they are inside; a run of typing goes on
unfoldable pub settled : AtomicCursorBias → State → State
settled bias state = settled_for state.settings.cursor_unit bias state

-- neither a cluster nor a range strictly contains the position
abbrev pub IsAtStop : DocumentState → Place → Type 0
IsAtStop document place = is_stop document.ranges (lines document.text) place ≡ true

-- the same of the cursor and the anchor
pub record AreAtStops (document : DocumentState) : Type 0 where
  pub cursor : IsAtStop document document.cursor
  pub anchor : IfSome document.anchor (IsAtStop document)

abbrev pub IsSettledBy : CursorUnit → DocumentState → Type 0
IsSettledBy unit.Character document = Unit {0}
IsSettledBy unit.Cluster document = AreAtStops document

-- if the cursor goes by clusters, neither a cluster nor a range strictly contains cursor or anchor
abbrev pub IsSettled : State → Type 0
IsSettled state = IsSettledBy state.settings.cursor_unit state.document

-- ---- where removals begin and end

abbrev pub whole_by : CursorUnit → AtomicCursorBias → DocumentState → Place → Place
whole_by unit.Character bias document place = place
whole_by unit.Cluster bias document place = stop_of bias document place

-- a removal from here begins here or, if the cursor goes by clusters, where what contains this begins
abbrev pub whole_start : State → Place → Place
whole_start state place = whole_by state.settings.cursor_unit Backward state.document place

-- a removal up to here ends here, or where what contains this ends
abbrev pub whole_end : State → Place → Place
whole_end state place = whole_by state.settings.cursor_unit Forward state.document place

-- the positions beside the cursor in its line
abbrev pub before_cursor : DocumentState → Place
before_cursor document = (document.cursor.0, document.cursor.1 - 1)

abbrev pub past_cursor : DocumentState → Place
past_cursor document = (document.cursor.0, document.cursor.1 + 1)

-- the second position, if its column is another one
abbrev pub if_elsewhere : Place → Place → Option Place
if_elsewhere place other = if other.1 == place.1 then None else Some other

abbrev pub earlier_start_by : CursorUnit → DocumentState → Option Place
earlier_start_by unit.Character document = None
earlier_start_by unit.Cluster document =
    if_elsewhere (before_cursor document) (stop_of Backward document (before_cursor document))

-- where the removal of the character before the cursor begins, if that is more than this character
abbrev pub earlier_start : State → Option Place
earlier_start state = earlier_start_by state.settings.cursor_unit state.document

abbrev pub later_end_by : CursorUnit → DocumentState → Option Place
later_end_by unit.Character document = None
later_end_by unit.Cluster document =
    if_elsewhere (past_cursor document) (stop_of Forward document (past_cursor document))

-- where the removal of the character after the cursor ends, if that is more than this character
abbrev pub later_end : State → Option Place
later_end state = later_end_by state.settings.cursor_unit state.document

-- the text between two positions, wider at both ends; an empty one is where nothing is split
abbrev pub widened_stretch : DocumentState → Place → Place → Place × Place
widened_stretch document start stop =
    if is_before start stop then (stop_of Backward document start, stop_of Forward document stop)
    else (stop_of Forward document start, stop_of Forward document start)

abbrev pub whole_stretch_by : CursorUnit → DocumentState → Place → Place → Place × Place
whole_stretch_by unit.Character document from to = (from, to)
whole_stretch_by unit.Cluster document from to =
    widened_stretch document (stretch_start document.text from to) (stretch_end document.text from to)

-- the ends of what is replaced between two positions, which are in either order
abbrev pub whole_stretch : State → Place → Place → Place × Place
whole_stretch state from to = whole_stretch_by state.settings.cursor_unit state.document from to

-- the cursor goes by clusters
abbrev pub GoesByClusters : State → Type 0
GoesByClusters state = state.settings.cursor_unit ≡ unit.Cluster

-- ---- what removals take

-- the removal begins and ends where neither a cluster nor a range of the text contains the position
pub record TakesWholeClusters (document : DocumentState) (splice : Splice) : Type 0 where
  pub start : IsAtStop document splice.place
  pub stop : IsAtStop document (end splice.place splice.symbols)

-- the same of stretches of the text, each from one number of symbols to another
abbrev pub AreWholeStretches : DocumentState → List (ℕ × ℕ) → Type 0
AreWholeStretches document stretches =
    All (λ stretch. IsAtStop document (place_of document.text stretch.0) × IsAtStop document (place_of document.text stretch.1)) stretches

-- the first splice, if it removes
abbrev pub FirstTakesWhole : DocumentState → List Splice → Type 0
FirstTakesWhole document [] = Unit {0}
FirstTakesWhole document (splice ∷ rest) = splice.inserts ≡ false → TakesWholeClusters document splice
