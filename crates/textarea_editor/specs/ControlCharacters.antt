-- Control characters.
use Rattle.std.specs.Prelude.{◌≡◌, ℕ, ◌+◌, ◌-◌, ◌^◌, ◌==◌, ◌&&◌, ◌||◌, nat_lt, not, Bool, List, String, count_by, fold, if◌then◌else◌, string_bytes}
use Rattle.std.specs.declared.alloc.Global.{Global}
use Rattle.textarea_text.specs.Text.{lines, lines_of}
use Rattle.tui_textarea.specs.State.{State}
use Rattle.textarea_editor.specs.declared.message.Message.{Message}
use Rattle.textarea_editor.specs.declared.message.Message.TheVariants.{ControlCharacters}

-- a byte below the space, 32, but for the tab, 9; or the last one of ASCII, 127
abbrev pub is_control : ℕ → Bool
is_control byte = (nat_lt byte 32 && not (byte == 9)) || byte == 127

-- the number of control characters in a line
abbrev pub controls_in : String Global → ℕ
controls_in line = count_by is_control (string_bytes line)

-- the sum of two numbers of 64 bits, or the greatest one
abbrev pub capped_sum : ℕ → ℕ → ℕ
capped_sum count more = if nat_lt more (2 ^ 64 - 1 - count) then count + more else 2 ^ 64 - 1

-- the number of control characters in lines, or the greatest number
abbrev pub shown_count : List (String Global) → ℕ
shown_count lines = fold (λ count line. capped_sum count (controls_in line)) 0 lines

-- the message with a number, or another one if it is 0
abbrev pub count_message : ℕ → Message → Message
count_message count none = if count == 0 then none else ControlCharacters count

-- the message has the number of control characters in the text, or is another one if there are none
pub record IsCountShown (state : State) (none message : Message) : Type 0 where
  pub strings : List (String Global)
  pub of_text : lines_of strings ≡ lines state.document.text
  pub shown : message ≡ count_message (shown_count strings) none
