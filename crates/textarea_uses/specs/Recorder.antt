-- Inputs that run out of memory.
use Rattle.std.specs.Prelude.{◌≡◌, ◌⊎◌}
use Rattle.std.specs.Duration.{as_nanos}
use Rattle.std.specs.declared.time.Duration.{Duration}
use Rattle.textarea_data.specs.declared.input.Input.{Input}
use Rattle.tui_textarea.specs.Input.{IsInputOutOfMemory, asked_by}
use Rattle.tui_textarea.specs.State.{State}

-- the input at its time runs out of memory, and leaves the new state
abbrev pub IsMadeOutOfMemory : State → Input × Duration → State → Type 0
IsMadeOutOfMemory old timed new = IsInputOutOfMemory (record old { time = as_nanos timed.1 }) (asked_by timed.0) new

-- out of memory nothing is done, or the input runs out of memory
abbrev pub IsLeft : State → Input × Duration → State → Type 0
IsLeft old timed new = (new ≡ old) ⊎ IsMadeOutOfMemory old timed new
