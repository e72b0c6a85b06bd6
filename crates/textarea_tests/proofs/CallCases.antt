-- Worked runs of calls on an empty text, computed.
use Rattle.std.proofs.Common.{◌≡◌, List, [], ◌∷◌, Option, None, Some, is_some, true, false, refl}
use Rattle.textarea_text.specs.Text.{Character, Break}
use Rattle.textarea_text.specs.Place.{Place}
use Rattle.textarea_ranges.specs.Moved.{moved_ranges}
use Rattle.textarea_document.specs.Edits.{removed_before, removed_after, between_removed}
use Rattle.tui_textarea.specs.Removals.{yanked}
use Rattle.textarea_screen.specs.declared.screen.buffer.Buffer.{Buffer}
use Rattle.textarea_document.specs.Target.{target}
use Rattle.tui_textarea.specs.Moves.{IsMoved, IsTarget, after_move_by, bias_of, pushed}
use Rattle.tui_textarea.specs.Units.{settled}
use Rattle.tui_textarea.specs.State.{State, new_state}
use Rattle.textarea_data.specs.declared.cursor.CursorMove.{CursorMove}
use Rattle.textarea_data.specs.declared.cursor.CursorMove.TheVariants.{Back, Down, Head, InViewport, Up}
use Rattle.tui_textarea.specs.Calls.{result_of_call, state_after}
use Rattle.tui_textarea.specs.Outcomes.{IsResultOf, IsAfterCall, IsBufferAfter}
use Rattle.tui_textarea.specs.Run.{Leads, CallLeads}
use Rattle.tui_textarea.specs.CallResults as reported
use Rattle.tui_textarea.specs.CallResults.{CallResult, Done, Flag, Text}
use Rattle.textarea_calls.specs.declared.call.Call.{Call}
use Rattle.textarea_calls.specs.declared.call.Call.TheVariants.{InsertChar, InsertNewline, DeleteChar, DeleteStr, Cut, Paste, Undo, Redo, StartSelection, SelectAll, YankText, Measure, Move}
use Rattle.textarea_calls.specs.declared.call.Call.TheVariants.{SetSearchPattern, SetSearchText, Render, CursorAtPosition, Scroll, Input, InputWithoutShortcuts, SetMaskChar, ClearMaskChar, MaskChar}
use Rattle.textarea_calls.specs.declared.call.Call.TheVariants.{RenderedCursorPosition}

abbrev empty : State
empty = new_state []

-- the move does not depend on visual rows
abbrev IsPlain : CursorMove → Type 0
IsPlain Up = ⊥
IsPlain Down = ⊥
IsPlain InViewport = ⊥
IsPlain cursor_move = Unit {0}

-- the call sets no pattern, takes no input, does not measure, draw or hit test, and does not depend
-- on visual rows, so its result and the state after it can be computed
abbrev IsSettled : Call → Type 0
IsSettled (SetSearchPattern text) = ⊥
IsSettled (SetSearchText text ignore_case whole_word) = ⊥
IsSettled (Measure width) = ⊥
IsSettled (Render area) = ⊥
IsSettled (CursorAtPosition cell) = ⊥
IsSettled (Scroll scrolling) = ⊥
IsSettled (Input input) = ⊥
IsSettled (InputWithoutShortcuts input) = ⊥
IsSettled (Move cursor_move) = IsPlain cursor_move
IsSettled call = Unit {0}

abbrev AreSettled : List Call → Type 0
AreSettled [] = Unit {0}
AreSettled (call ∷ calls) = IsSettled call × AreSettled calls

-- the target of such a move
abbrev plain_target : State → CursorMove → Option Place
plain_target state cursor_move = target state.document.text state.document.cursor cursor_move

-- the state after such a move
abbrev after_move : State → CursorMove → State
after_move state cursor_move = settled (bias_of cursor_move) (after_move_by state (is_some state.document.anchor) (pushed state.document.ranges cursor_move (plain_target state cursor_move)))

-- the state after such a call
abbrev after : State → Call → State
after state (Move cursor_move) = after_move state cursor_move
after state call = state_after state call

-- the results of such calls, and the state after them
abbrev results_of : State → List Call → List CallResult
results_of state [] = []
results_of state (call ∷ calls) = result_of_call state call ∷ results_of (after state call) calls

abbrev end_of : State → List Call → State
end_of state [] = state
end_of state (call ∷ calls) = end_of (after state call) calls

settled-returned : (state : State) (call : Call) → IsSettled call → IsResultOf state call (result_of_call state call)
settled-returned state (SetSearchPattern text) settled = absurd settled
settled-returned state (SetSearchText text ignore_case whole_word) settled = absurd settled
settled-returned state (Measure width) settled = absurd settled
settled-returned state (Render area) settled = absurd settled
settled-returned state (CursorAtPosition cell) settled = absurd settled
settled-returned state (Scroll scrolling) settled = absurd settled
settled-returned state (Input input) settled = absurd settled
settled-returned state (InputWithoutShortcuts input) settled = absurd settled
settled-returned state call settled = refl

plain-target : (state : State) (cursor_move : CursorMove) → IsPlain cursor_move → IsTarget state cursor_move (plain_target state cursor_move)
plain-target state Up plain = absurd plain
plain-target state Down plain = absurd plain
plain-target state InViewport plain = absurd plain
plain-target state cursor_move plain = refl

plain-moved : (state : State) (cursor_move : CursorMove) → IsPlain cursor_move → IsMoved state cursor_move (after_move state cursor_move)
plain-moved state cursor_move plain = record {
  found = plain_target state cursor_move;
  target_is = plain-target state cursor_move plain;
  new_is = refl;
}

settled-after : (state : State) (call : Call) → IsSettled call → IsAfterCall state call (result_of_call state call) (after state call)
settled-after state (SetSearchPattern text) settled = absurd settled
settled-after state (SetSearchText text ignore_case whole_word) settled = absurd settled
settled-after state (Measure width) settled = absurd settled
settled-after state (Render area) settled = absurd settled
settled-after state (CursorAtPosition cell) settled = absurd settled
settled-after state (Scroll scrolling) settled = absurd settled
settled-after state (Input input) settled = absurd settled
settled-after state (InputWithoutShortcuts input) settled = absurd settled
settled-after state (Move cursor_move) settled = plain-moved state cursor_move settled
settled-after state call settled = refl

settled-displayed : (state : State) (buffer : Buffer) (call : Call) → IsSettled call → IsBufferAfter call state buffer buffer
settled-displayed state buffer (Render area) settled = absurd settled
settled-displayed state buffer call settled = refl

settled-made : (state : State) (buffer : Buffer) (call : Call) → IsSettled call → CallLeads state buffer call (result_of_call state call) (after state call) buffer
settled-made state buffer call settled = record {
  answered = settled-returned state call settled;
  after = settled-after state call settled;
  drawn = settled-displayed (after state call) buffer call settled;
}

settled-leads : (state : State) (buffer : Buffer) (calls : List Call) → AreSettled calls → Leads state buffer calls (results_of state calls) (end_of state calls) buffer
settled-leads state buffer [] settled = (refl, refl)
settled-leads state buffer (call ∷ calls) settled =
    (after state call, buffer, settled-made state buffer call settled.0, settled-leads (after state call) buffer calls settled.1)

abbrev reached : List Call → State
reached calls = end_of empty calls

-- `a`, a break, `b`, the removal of `b`, and its undo
abbrev two_lines : List Call
two_lines = InsertChar 97 ∷ InsertNewline ∷ InsertChar 98 ∷ DeleteChar ∷ Undo ∷ []

two_lines-results : results_of empty two_lines ≡ Done ∷ Done ∷ Done ∷ Flag true ∷ Flag true ∷ []
unfolding removed_before removed_after between_removed yanked moved_ranges settled
two_lines-results = refl

-- a run leads there
two_lines-leads : (buffer : Buffer) → Leads empty buffer two_lines (results_of empty two_lines) (reached two_lines) buffer
two_lines-leads buffer = settled-leads empty buffer two_lines (tt, (tt, (tt, (tt, (tt, tt)))))

two_lines-text : (reached two_lines).document.text ≡ Character 97 ∷ Break ∷ Character 98 ∷ []
unfolding removed_before removed_after between_removed yanked moved_ranges settled
two_lines-text = refl

-- the cursor is after the restored text
two_lines-cursor : (reached two_lines).document.cursor ≡ (1, 1)
unfolding removed_before removed_after between_removed yanked moved_ranges settled
two_lines-cursor = refl

-- the removal can be redone
two_lines-undone : (reached two_lines).document.log.undone ≡ (record { place = (1, 0); symbols = Character 98 ∷ []; inserts = false }) ∷ []
unfolding removed_before removed_after between_removed yanked moved_ranges settled
two_lines-undone = refl

-- a new edit drops what was undone
abbrev replaced_edit : List Call
replaced_edit = InsertChar 97 ∷ Undo ∷ InsertChar 98 ∷ Redo ∷ []

replaced_edit-results : results_of empty replaced_edit ≡ Done ∷ Flag true ∷ Done ∷ Flag false ∷ []
unfolding removed_before removed_after between_removed yanked moved_ranges settled
replaced_edit-results = refl

replaced_edit-text : (reached replaced_edit).document.text ≡ Character 98 ∷ []
unfolding removed_before removed_after between_removed yanked moved_ranges settled
replaced_edit-text = refl

-- a carriage return breaks the line
return-text : (reached (InsertChar 13 ∷ [])).document.text ≡ Break ∷ []
unfolding removed_before removed_after between_removed yanked moved_ranges settled
return-text = refl

-- nothing to do
idle-results : results_of empty (DeleteChar ∷ Undo ∷ Redo ∷ Cut ∷ Paste ∷ []) ≡ Flag false ∷ Flag false ∷ Flag false ∷ Flag false ∷ Flag false ∷ []
unfolding removed_before removed_after between_removed yanked moved_ranges settled
idle-results = refl

idle-state : reached (DeleteChar ∷ Undo ∷ Redo ∷ Cut ∷ Paste ∷ []) ≡ empty
unfolding removed_before removed_after between_removed yanked moved_ranges settled
idle-state = refl

-- `a`, a break and `b`, all selected and cut: the yank has a line feed for the break
abbrev calls_that_wrap : List Call
calls_that_wrap = InsertChar 97 ∷ InsertNewline ∷ InsertChar 98 ∷ SelectAll ∷ Cut ∷ YankText ∷ []

calls_that_wrap-results : results_of empty calls_that_wrap ≡ Done ∷ Done ∷ Done ∷ Done ∷ Flag true ∷ Text (97 ∷ 10 ∷ 98 ∷ []) ∷ []
unfolding removed_before removed_after between_removed yanked moved_ranges settled
calls_that_wrap-results = refl

calls_that_wrap-text : (reached calls_that_wrap).document.text ≡ []
unfolding removed_before removed_after between_removed yanked moved_ranges settled
calls_that_wrap-text = refl

-- what is typed replaces the selected text, as two edits
abbrev typed_over : List Call
typed_over = InsertChar 97 ∷ StartSelection ∷ Move Back ∷ InsertChar 98 ∷ Undo ∷ []

typed_over-text : (reached typed_over).document.text ≡ []
unfolding removed_before removed_after between_removed yanked moved_ranges settled
typed_over-text = refl

-- the removal of two symbols after the cursor, one of them a break
abbrev removed_count : List Call
removed_count = InsertNewline ∷ InsertChar 97 ∷ Move Head ∷ Move Back ∷ DeleteStr 2 ∷ []

removed_count-yank : (reached removed_count).yank ≡ Break ∷ Character 97 ∷ []
unfolding removed_before removed_after between_removed yanked moved_ranges settled
removed_count-yank = refl

-- a mask is returned until it is cleared; before the first drawing there is no caret
abbrev masked : List Call
masked = SetMaskChar 42 ∷ MaskChar ∷ ClearMaskChar ∷ MaskChar ∷ RenderedCursorPosition ∷ []

masked-results : results_of empty masked ≡ Done ∷ reported.Character (Some 42) ∷ Done ∷ reported.Character None ∷ reported.Position None ∷ []
masked-results = refl

masked-state : reached masked ≡ empty
masked-state = refl
