-- Events as values.
use Rattle.std.specs.Prelude.{ℕ, List, Option}
use Rattle.std.specs.String.{string_bytes}
use Rattle.textarea_data.specs.declared.input.Input.{Input}
use Rattle.textarea_terminal.specs.declared.input.event.Event.{Event}
use Rattle.textarea_terminal.specs.declared.input.event.Event.TheVariants as event
use Rattle.textarea_terminal.specs.declared.input.event.Mouse.{Mouse}
use Rattle.textarea_terminal.specs.declared.input.event.Unit.{Unit}
use Rattle.textarea_terminal.specs.declared.input.event.Unit.TheVariants as unit

-- An event, with the bytes of a pasted text. A report of a new size in the terminal's own time (mode 2048) and the release of a
-- key, which make no events of their own kind, are values of what is at the front of bytes.
pub data EventValue : Type 0 where
  input : Input → EventValue
  paste : List ℕ → EventValue
  mouse : Mouse → EventValue
  size : ℕ → ℕ → EventValue
  cursor : ℕ → ℕ → EventValue
  focus_gained : EventValue
  focus_lost : EventValue
  unknown : EventValue
  resized : ℕ → ℕ → EventValue
  released : EventValue

abbrev pub value_of : Event → EventValue
value_of (event.Input i) = input i
value_of (event.Paste text) = paste (string_bytes text)
value_of (event.Mouse m) = mouse m
value_of (event.Size columns rows) = size columns rows
value_of (event.Cursor column row) = cursor column row
value_of event.FocusGained = focus_gained
value_of event.FocusLost = focus_lost
value_of event.Unknown = unknown

abbrev pub unit_value : Unit → EventValue
unit_value (unit.Input i) = input i
unit_value (unit.Mouse m) = mouse m
unit_value (unit.Size columns rows) = size columns rows
unit_value (unit.Resized columns rows) = resized columns rows
unit_value (unit.Cursor column row) = cursor column row
unit_value unit.FocusGained = focus_gained
unit_value unit.FocusLost = focus_lost
unit_value unit.Released = released
unit_value unit.Unknown = unknown

-- the event at the front of bytes, and the rest of the bytes; None if more bytes are needed
abbrev pub EventAndRest : Type 0
EventAndRest = Option (EventValue × List ℕ)
