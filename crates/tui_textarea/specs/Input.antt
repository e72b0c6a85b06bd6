-- The states after inputs. Each input has an action, by one of the two key tables. The action's
-- result, the state after it, and where it may run out of memory, are those of its call.
use Rattle.std.specs.Prelude.{◌≡◌, ◌&&◌, not, Bool, false, Option, None, Some}
use Rattle.textarea_data.specs.declared.input.Input.{Input}
use Rattle.textarea_calls.specs.FlagRule as flag_rules
use Rattle.textarea_calls.specs.FlagRule.{result_flag}
use Rattle.textarea_calls.specs.Keys.{keys_with_shortcuts, keys_without_shortcuts}
use Rattle.textarea_calls.specs.Table.{action_by}
use Rattle.textarea_calls.specs.declared.action.Action.{Action}
use Rattle.textarea_calls.specs.declared.action.Action.TheVariants as action
use Rattle.textarea_calls.specs.declared.call.Call.{Call}
use Rattle.textarea_calls.specs.declared.call.Call.TheVariants as call
use Rattle.textarea_document.specs.Selection.{is_selected}
use Rattle.tui_textarea.specs.Calls.{StateOutOfMemory, NeedsMemory, result_of_call, state_after}
use Rattle.tui_textarea.specs.Guards.{bars_break, bars_character, is_editable}
use Rattle.tui_textarea.specs.Moves.{IsMovedWith, IsScrolled, IsScrolledWith}
use Rattle.tui_textarea.specs.CallResults.{CallResult, Flag}
use Rattle.tui_textarea.specs.State.{State}

-- the action of an input: by the table with shortcuts, and by the one without
abbrev pub asked_by : Input → Action
asked_by input = action_by keys_with_shortcuts input

abbrev pub asked_without_shortcuts : Input → Action
asked_without_shortcuts input = action_by keys_without_shortcuts input

-- whether the result states that there was something to do
abbrev pub flag_of : CallResult → Bool
flag_of (Flag found) = found
flag_of other = false

-- the call of an action; no action has none, and a move or a scroll is not defined by a call
abbrev pub call_of_action : Action → Option Call
call_of_action (action.InsertChar c) = Some (call.InsertChar c)
call_of_action action.InsertNewline = Some call.InsertNewline
call_of_action action.InsertTab = Some call.InsertTab
call_of_action action.Paste = Some call.Paste
call_of_action action.DeleteChar = Some call.DeleteChar
call_of_action action.DeleteNextChar = Some call.DeleteNextChar
call_of_action action.DeleteLineByEnd = Some call.DeleteLineByEnd
call_of_action action.DeleteLineByHead = Some call.DeleteLineByHead
call_of_action action.DeleteWord = Some call.DeleteWord
call_of_action action.DeleteNextWord = Some call.DeleteNextWord
call_of_action action.Cut = Some call.Cut
call_of_action action.Copy = Some call.Copy
call_of_action action.Undo = Some call.Undo
call_of_action action.Redo = Some call.Redo
call_of_action other = None

-- the result of the call, if it returns whether there was something to do
abbrev pub call_flag : State → Option Call → Bool
call_flag state None = false
call_flag state (Some made) = flag_of (result_of_call state made)

-- the result of an input with this action: true for a character or a line break, and for a cut whether
-- a text is selected, but false for these where a guard leaves them out; false for a copy, a move, a
-- scroll or no action; otherwise the result of the call
abbrev pub action_flag : State → Action → Bool
action_flag state (action.InsertChar c) = not (bars_character state c)
action_flag state action.InsertNewline = not (bars_break state)
action_flag state action.Cut = is_editable state && is_selected state.document
action_flag state asked = result_flag (flag_rules.flag_rule_of asked) (call_flag state (call_of_action asked))

-- the state after the call, if there is one
abbrev pub state_after_any : State → Option Call → State
state_after_any state None = state
state_after_any state (Some made) = state_after state made

-- the state after an input with this action
abbrev pub IsAfterAction : State → Action → State → Type 0
IsAfterAction old (action.MoveWithShift cursor_move shift) new = IsMovedWith old shift cursor_move new
IsAfterAction old (action.ScrollWithShift scrolling shift) new = IsScrolledWith old shift scrolling new
IsAfterAction old (action.Scroll scrolling) new = IsScrolled old scrolling new
IsAfterAction old asked new = new ≡ state_after_any old (call_of_action asked)

-- the call, if there is one, may need memory
abbrev pub AnyNeedsMemory : State → Option Call → Type 0
AnyNeedsMemory state None = ⊥
AnyNeedsMemory state (Some made) = NeedsMemory state made

-- an input with this action may run out of memory, because its call may
abbrev pub ActMayRunOutOfMemory : State → Action → Type 0
ActMayRunOutOfMemory state asked = AnyNeedsMemory state (call_of_action asked)

-- the state after the call, if there is one, ran out of memory
abbrev pub IsAnyOutOfMemory : State → Option Call → State → Type 0
IsAnyOutOfMemory old None new = new ≡ old
IsAnyOutOfMemory old (Some made) new = StateOutOfMemory old made new

-- the state after an input that ran out of memory: that of its call
abbrev pub IsInputOutOfMemory : State → Action → State → Type 0
IsInputOutOfMemory old asked new = IsAnyOutOfMemory old (call_of_action asked) new
