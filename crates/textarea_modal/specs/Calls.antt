-- The calls on a text area that the steps of keys make.
use Rattle.std.specs.Prelude.{◌≡◌, Bool, List, [], ◌∷◌, ◌++◌, map, Option, None, Some}
use Rattle.textarea_calls.specs.Edits.{edits}
use Rattle.textarea_calls.specs.declared.call.Call.{Call}
use Rattle.textarea_calls.specs.declared.call.Call.TheVariants as call
use Rattle.textarea_data.specs.declared.cursor.CursorMove.{CursorMove}
use Rattle.textarea_data.specs.declared.input.Input.{Input}
use Rattle.textarea_modal.specs.Table as table
use Rattle.textarea_modal.specs.Table.{IsPassedOn}
use Rattle.textarea_modal.specs.declared.mode.Mode.{Mode}
use Rattle.textarea_modal.specs.declared.step.KeyCall.{KeyCall}
use Rattle.textarea_modal.specs.declared.step.KeyCall.TheVariants as key
use Rattle.textarea_modal.specs.declared.step.Reaction.{Reaction}
use Rattle.textarea_modal.specs.declared.step.Reaction.TheVariants as reaction
use Rattle.textarea_modal.specs.declared.step.Step.{Step}
use Rattle.tui_textarea.specs.Input.{asked_by}

-- the call of a key on the text area
abbrev pub key_call : KeyCall → Call
key_call key.InsertNewline = call.InsertNewline
key_call key.Paste = call.Paste
key_call key.DeleteNextChar = call.DeleteNextChar
key_call key.DeleteLineByEnd = call.DeleteLineByEnd
key_call key.Cut = call.Cut
key_call key.Copy = call.Copy
key_call key.Undo = call.Undo
key_call key.Redo = call.Redo
key_call key.StartSelection = call.StartSelection
key_call key.CancelSelection = call.CancelSelection
key_call (key.Move cursor_move) = call.Move cursor_move
key_call (key.Scroll scrolling) = call.Scroll scrolling
key_call (key.SearchForward at_cursor) = call.SearchForward at_cursor
key_call (key.SearchBack at_cursor) = call.SearchBack at_cursor

-- whether that call may change the text
abbrev pub key_edits : KeyCall → Bool
key_edits made = edits (key_call made)

-- the call of a motion, if there is one
abbrev pub motion_call : Option CursorMove → List Call
motion_call None = []
motion_call (Some cursor_move) = call.Move cursor_move ∷ []

-- a step, by its calls on the text area
abbrev pub step_calls : Step → table.Step
step_calls step = record { calls = motion_call step.motion ++ map key_call step.calls.now; mode = step.mode; quits = step.quits }

-- what an input does in a mode: the table's step, or, where it is passed on, its action
abbrev pub IsReaction : Mode → Input → Reaction → Type 0
IsReaction mode input (reaction.Step made) = step_calls made ≡ table.step mode input
IsReaction mode input (reaction.PassOn asked) = IsPassedOn mode input × (asked_by input ≡ asked)

-- the fact is true of the step of each input that does this in the mode
abbrev pub OfStep : Mode → Reaction → (table.Step → Type 0) → Type 0
OfStep mode found Fact = (input : Input) → IsReaction mode input found → Fact (table.step mode input)
