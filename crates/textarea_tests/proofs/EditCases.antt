-- Worked cases of the definitions, each by computing.
use Rattle.std.proofs.Common.{◌≡◌, List, [], ◌∷◌, Some, refl, true, false}
use Rattle.textarea_text.specs.Text.{Symbol, Character, Break, joined, lines}
use Rattle.textarea_text.specs.Place.{Place, end, index_of, place_of, inserted, removed}
use Rattle.textarea_text.specs.Splice.{Splice}
use Rattle.textarea_history.specs.Log.{empty_log, recorded}
use Rattle.tui_textarea.specs.State.{State, new_state, with_document}
use Rattle.textarea_document.specs.Edits.{removed_before, between_removed}
use Rattle.textarea_document.specs.Outcomes.{after_redo, after_undo}
use Rattle.textarea_ranges.specs.Moved.{moved_ranges}
use Rattle.tui_textarea.specs.Edits.{char_inserted, newline_inserted}
use Rattle.tui_textarea.specs.Selection.{selection_cut}
use Rattle.tui_textarea.specs.Removals.{symbol_before_removed, unselected_or}

-- lines as one flat text, and back
pub joined_case : joined ((97 ∷ 98 ∷ []) ∷ (99 ∷ []) ∷ []) ≡ Character 97 ∷ Character 98 ∷ Break ∷ Character 99 ∷ []
joined_case = refl

pub lines_case : lines (Character 97 ∷ Break ∷ Break ∷ Character 99 ∷ []) ≡ (97 ∷ []) ∷ [] ∷ (99 ∷ []) ∷ []
lines_case = refl

-- a line feed inside a line is no break
pub line_feed_case : lines (Character 97 ∷ Character 10 ∷ []) ≡ (97 ∷ 10 ∷ []) ∷ []
line_feed_case = refl

-- the line `ab` and the line `c`: the position (1, 0) is the index 3, and back
pub index_case : index_of (Character 97 ∷ Character 98 ∷ Break ∷ Character 99 ∷ []) (1, 0) ≡ 3
index_case = refl

pub place_case : place_of (Character 97 ∷ Character 98 ∷ Break ∷ Character 99 ∷ []) 3 ≡ (1, 0)
place_case = refl

pub end_case : end (0, 1) (Character 97 ∷ Break ∷ Character 98 ∷ []) ≡ (1, 1)
end_case = refl

-- a break inserted inside a line, and removed again
pub inserted_case : inserted (Character 97 ∷ Character 98 ∷ []) (0, 1) (Break ∷ []) ≡ Character 97 ∷ Break ∷ Character 98 ∷ []
inserted_case = refl

pub removed_case : removed (Character 97 ∷ Break ∷ Character 98 ∷ []) (0, 1) (Break ∷ []) ≡ Character 97 ∷ Character 98 ∷ []
removed_case = refl

abbrev pub typed : List Symbol → Place → Splice
typed symbols place = record { place = place; symbols = symbols; inserts = true }

-- the third edit of a log of two: the oldest is dropped
pub bound_case : (recorded (recorded (recorded (empty_log 2) (typed (Character 97 ∷ []) (0, 0)) false 0) (typed (Character 98 ∷ []) (0, 1)) false 0)
    (typed (Character 99 ∷ []) (0, 2)) false 0).done ≡ typed (Character 98 ∷ []) (0, 1) ∷ typed (Character 99 ∷ []) (0, 2) ∷ []
bound_case = refl

-- a character and a blank typed with coalescing on, 499 ms apart, are one edit; 500 ms apart two
pub joined_run_case : (recorded (recorded (empty_log 2) (typed (Character 97 ∷ []) (0, 0)) true 0) (typed (Character 32 ∷ []) (0, 1)) true 499_000_000).done ≡ typed (Character 97 ∷ Character 32 ∷ []) (0, 0) ∷ []
joined_run_case = refl

pub parted_run_case : (recorded (recorded (empty_log 2) (typed (Character 97 ∷ []) (0, 0)) true 0) (typed (Character 32 ∷ []) (0, 1)) true 500_000_000).done ≡ typed (Character 97 ∷ []) (0, 0) ∷ typed (Character 32 ∷ []) (0, 1) ∷ []
parted_run_case = refl

-- `a`, a line feed, `b`, the removal of `b`, and its undo: two lines, the cursor after the `b`
abbrev pub undo_of : State → State
undo_of state = with_document state (after_undo state.document)

abbrev pub redo_of : State → State
redo_of state = with_document state (after_redo state.document)

-- the first character is selected, and the cursor is after it
abbrev pub selected_first : State → State
selected_first state = with_document state (record state.document { cursor = (0, 1); anchor = Some (0, 0) })

abbrev pub deleted_char : State → State
deleted_char state = unselected_or state (symbol_before_removed state)

abbrev pub first_run : State
first_run = undo_of (deleted_char (char_inserted (newline_inserted (char_inserted (new_state []) 97)) 98))

pub first_run_case : first_run.document.text ≡ Character 97 ∷ Break ∷ Character 98 ∷ []
unfolding removed_before moved_ranges
first_run_case = refl

pub first_run_cursor_case : first_run.document.cursor ≡ (1, 1)
unfolding removed_before moved_ranges
first_run_cursor_case = refl

-- an edit after an undo: there is nothing left to redo
pub redo_case : (redo_of (char_inserted (undo_of (char_inserted (new_state []) 97)) 98)).document.text ≡ Character 98 ∷ []
unfolding moved_ranges
redo_case = refl

-- a carriage return breaks the line
pub carriage_return_case : (char_inserted (new_state []) 13).document.text ≡ Break ∷ []
carriage_return_case = refl

-- an insertion over a selection is two edits: the removal and the insertion
pub over_selection_case : (char_inserted (selected_first (new_state (Character 97 ∷ Character 98 ∷ []))) 120).document.log.done ≡
    (record { place = (0, 0); symbols = Character 97 ∷ []; inserts = false }) ∷ (record { place = (0, 0); symbols = Character 120 ∷ []; inserts = true }) ∷ []
unfolding between_removed moved_ranges
over_selection_case = refl

-- a selection's removal yanks nothing, and a cut yanks
pub selection_out_case : (deleted_char (selected_first (new_state (Character 97 ∷ Character 98 ∷ [])))).yank ≡ []
unfolding between_removed
selection_out_case = refl

pub cut_case : (selection_cut (selected_first (new_state (Character 97 ∷ Character 98 ∷ [])))).yank ≡ Character 97 ∷ []
unfolding between_removed
cut_case = refl
