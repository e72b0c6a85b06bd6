-- Texts of one line.
use Rattle.std.specs.Prelude.{◌≡◌, ◌==◌, ℕ, Bool, true, false, if◌then◌else◌, not, All}
use Rattle.textarea_text.specs.Text.{Symbol, Break, Character}
use Rattle.textarea_calls.specs.declared.action.Action.{Action}
use Rattle.textarea_calls.specs.declared.action.Action.TheVariants as action
use Rattle.textarea_calls.specs.declared.call.Call.TheVariants as call
use Rattle.tui_textarea.specs.Calls.{state_after}
use Rattle.tui_textarea.specs.Edits.{breaks_line}
use Rattle.tui_textarea.specs.State.{State}

-- whether the symbol breaks no line, also where the text is written: it is no break and no line
-- feed
abbrev pub is_in_line : Symbol → Bool
is_in_line Break = false
is_in_line (Character c) = not (c == 10)

abbrev pub StaysInLine : Symbol → Type 0
StaysInLine symbol = is_in_line symbol ≡ true

-- no symbol of the text breaks a line
abbrev pub IsOneLine : State → Type 0
IsOneLine state = All StaysInLine state.document.text

-- the character is inserted as `insert_char` does, unless it breaks the line
abbrev pub after_typing : State → ℕ → State
after_typing state c = if breaks_line c then state else state_after state (call.InsertChar c)

-- Characters are typed, and Tab, Backspace and Delete do what they do in a text area. Nothing else
-- is done.
abbrev pub after_action : State → Action → State
after_action state (action.InsertChar c) = after_typing state c
after_action state action.InsertTab = state_after state call.InsertTab
after_action state action.DeleteChar = state_after state call.DeleteChar
after_action state action.DeleteNextChar = state_after state call.DeleteNextChar
after_action state other = state
