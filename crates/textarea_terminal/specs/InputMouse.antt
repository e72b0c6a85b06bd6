-- Mouse reports (xterm, "Mouse Tracking"). SGR's are ESC [ < code ; column ; row, and M, or m if a button was released.
use Rattle.std.specs.Prelude.{ℕ, ◌+◌, ◌-◌, Bool, true, not, ◌==◌, ◌||◌, ◌&&◌, nat_le, nat_lt, min, Option, Some, None, bit_and, if◌then◌else◌}
use Rattle.textarea_data.specs.declared.input.Key.{Key}
use Rattle.textarea_data.specs.declared.input.Key.TheVariants as key
use Rattle.textarea_terminal.specs.declared.input.event.MouseKind.{MouseKind}
use Rattle.textarea_terminal.specs.declared.input.event.MouseKind.TheVariants as kind
use Rattle.textarea_terminal.specs.declared.input.event.MouseButton.{MouseButton}
use Rattle.textarea_terminal.specs.declared.input.event.MouseButton.TheVariants as button
use Rattle.textarea_terminal.specs.InputEvent.{EventValue, input, mouse, unknown}

-- whether a bit of a code is set
abbrev pub has : ℕ → ℕ → Bool
has code bit = not (bit_and code bit == 0)

-- The button of a code's lowest two bits; 3 is none. With the bit 128 they are the buttons 8 to 11.
abbrev pub button_of : ℕ → Option MouseButton
button_of code = let low = bit_and code 3 in
    if has code 128 then Some (button.Other (low + 8))
    else (if low == 0 then Some button.Left else (if low == 1 then Some button.Middle else (if low == 2 then Some button.Right else None)))

-- What the mouse did, by its button, whether it moved, and whether the report ends in M. A report of a move never releases a
-- button, and a report with no button is always one of a move.
abbrev pub mouse_kind : Option MouseButton → Bool → Bool → Option MouseKind
mouse_kind (Some b) moved down = if down then Some (if moved then kind.Drag b else kind.Press b) else (if moved then None else Some (kind.Release b))
mouse_kind None moved down = if down then (if moved then Some kind.Move else None) else None

-- the event of what a mouse did, in a column and a row from 1 (those above 65,535 count as 65,535)
abbrev pub at_cell : ℕ → ℕ → ℕ → Option MouseKind → EventValue
at_cell code column row None = unknown
at_cell code column row (Some k) =
    mouse (record { kind = k; column = min 65535 column - 1; row = min 65535 row - 1; ctrl = has code 16; alt = has code 8; shift = has code 4 })

-- a key of a code with its modifiers
abbrev pub with_code : ℕ → Key → EventValue
with_code code k = input (record { key = k; ctrl = has code 16; alt = has code 8; shift = has code 4 })

-- A step of the wheel, by a code's lowest two bits: 0 up, 1 down, 2 left, 3 right. Releases of the wheel are unknown.
abbrev pub wheel_event : ℕ → ℕ → ℕ → Bool → EventValue
wheel_event code column row down = let low = bit_and code 3 in
    if not down then unknown
    else (if low == 0 then with_code code key.MouseScrollUp
    else (if low == 1 then with_code code key.MouseScrollDown
    else (if low == 2 then at_cell code column row (Some kind.WheelLeft) else at_cell code column row (Some kind.WheelRight))))

abbrev pub button_event : ℕ → ℕ → ℕ → Bool → EventValue
button_event code column row down = at_cell code column row (mouse_kind (button_of code) (has code 32) down)

-- The event of a report whose code has the bits 1 and 2 for the button, 4 Shift, 8 Alt, 16 Ctrl, 32 moved, 64 the wheel, 128 a
-- further button. Other codes are unknown. Columns and rows are counted from 1.
unfoldable pub mouse_at : ℕ → ℕ → ℕ → Bool → EventValue
mouse_at code column row down =
    if nat_le 192 code || column == 0 || row == 0 then unknown
    else (if has code 64 then wheel_event code column row down else button_event code column row down)

unfoldable pub mouse_event : ℕ → ℕ → ℕ → ℕ → EventValue
mouse_event code column row last = if last == 77 || last == 109 then mouse_at code column row (last == 77) else unknown

-- The event of a report of the older modes (X10, 1005, 1015), which don't say which button was released: their code is the button
-- 3, with modifiers only.
unfoldable pub old_mouse_event : ℕ → ℕ → ℕ → EventValue
old_mouse_event code column row =
    if bit_and code 227 == 3 && not (column == 0) && not (row == 0) then at_cell code column row (Some kind.ReleaseAny)
    else mouse_at code column row true

-- the same of a code that 32 is added to
abbrev pub raised_mouse_event : ℕ → ℕ → ℕ → EventValue
raised_mouse_event code column row = if nat_lt code 32 then unknown else old_mouse_event (code - 32) column row
