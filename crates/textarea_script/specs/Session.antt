-- Sessions: the inputs of a text's characters, and the printed text of their end.
use Rattle.std.specs.Prelude.{◌≡◌, ◌≢◌, ℕ, IfSome, false, ◌==◌, if◌then◌else◌, List, [], ◌++◌, codes, decimal, map, IsUtf8, Option}
use Rattle.std.specs.Io.{StartsWith}
use Rattle.std.specs.Io.KnownBytes.{Appends}
use Rattle.std.specs.Str.{chars}
use Rattle.textarea_data.specs.declared.input.Input.{Input}
use Rattle.textarea_data.specs.declared.input.Key.{Key}
use Rattle.textarea_data.specs.declared.input.Key.TheVariants.{Char, Enter, Esc, Tab}
use Rattle.tui_textarea.specs.State.{State, new_state}
use Rattle.textarea_modal.specs.Runs.{EndsAs}
use Rattle.textarea_modal.specs.declared.modal.ModalStop.{ModalStop}
use Rattle.textarea_modal.specs.declared.modal.ModalStop.TheVariants.{End, Quit, Memory}
use Rattle.textarea_modal.specs.declared.mode.Mode.{Mode}
use Rattle.textarea_modal.specs.declared.mode.Mode.TheVariants.{Normal, Insert, Visual, Operator}

-- ---- ---- the input

-- the key of a character: 27 is Esc, a line feed Enter, a tab Tab, and any other character itself
abbrev pub key_of_character : ℕ → Key
key_of_character character = if character == 27 then Esc else (if character == 10 then Enter else (if character == 9 then Tab else Char character))

-- the input of a character: its key, without modifiers
abbrev pub input_of_character : ℕ → Input
input_of_character character = record { key = key_of_character character; ctrl = false; alt = false; shift = false }

-- the inputs of a text
abbrev pub inputs_of_text : List ℕ → List Input
inputs_of_text text = map input_of_character (chars text)

-- ---- ---- the output

abbrev pub mode_name : Mode → List ℕ
mode_name Normal = codes "normal"
mode_name Insert = codes "insert"
mode_name Visual = codes "visual"
mode_name (Operator op) = codes "operator"

abbrev pub stop_name : ModalStop → List ℕ
stop_name End = codes "end"
stop_name Quit = codes "quit"
stop_name Memory = codes "memory"

-- the first three lines: the mode, the number of used inputs, and why the session ended
abbrev pub head : Mode → ℕ → ModalStop → List ℕ
head mode taken stop =
    codes "mode " ++ mode_name mode ++ codes "\ntaken " ++ decimal taken ++ codes "\n" ++ stop_name stop ++ codes "\n"

-- ---- sessions

-- the inputs' run on a text area ends like this, and none of their calls runs out of memory
pub record Ends (old : State) (inputs : List Input) (mode : Mode) (taken : ℕ) (stop : ModalStop) : Type 0 where
  pub new : State
  pub ended : EndsAs old Normal inputs new mode taken stop
  pub none_out_of_memory : stop ≢ Memory

-- the printed text of the inputs' run: mode, number and reason, then the text area, in any form
pub record IsPrinted (old : State) (inputs : List Input) (printed : List ℕ) : Type 0 where
  pub mode : Mode
  pub taken : ℕ
  pub stop : ModalStop
  pub ends : Ends old inputs mode taken stop
  pub first : StartsWith printed (head mode taken stop)

-- the bytes are UTF-8, and the printed text of their session is appended to a known output
pub record IsSessionWritten (old new : Option (List ℕ)) (bytes : List ℕ) : Type 0 where
  pub text : IsUtf8 bytes
  pub printed : List ℕ
  pub session : IsPrinted (new_state []) (inputs_of_text bytes) printed
  pub written : Appends old new printed

-- the bytes are not UTF-8
abbrev pub IsNoText : List ℕ → Type 0
IsNoText bytes = ¬ (IsUtf8 bytes)

-- the status of a session of a known input: after 0 it is written, after 2 the input is no text
pub record IsSessionServed (status : ℕ) (input old new : Option (List ℕ)) : Type 0 where
  pub done : status ≡ 0 → IfSome input (IsSessionWritten old new)
  pub not_read : status ≡ 2 → IfSome input IsNoText
