-- The events that C gets.
use Rattle.std.specs.Prelude.{ℕ, length}
use Rattle.textarea_terminal.specs.InputEvent.{EventValue, input, paste, mouse, size, cursor, focus_gained, focus_lost, unknown, resized, released}
use Rattle.textarea_terminal.specs.declared.input.event.Mouse.{Mouse}
use Rattle.textarea_terminal.specs.declared.input.event.MouseButton.{MouseButton}
use Rattle.textarea_terminal.specs.declared.input.event.MouseButton.TheVariants.{Left, Middle, Right, Other}
use Rattle.textarea_terminal.specs.declared.input.event.MouseKind.{MouseKind}
use Rattle.textarea_terminal.specs.declared.input.event.MouseKind.TheVariants.{Press, Release, Drag, Move, ReleaseAny, WheelLeft, WheelRight}
use Rattle.textarea_c_data.specs.Inputs.{blank_input, plain_input}
use Rattle.textarea_c_data.specs.declared.event.CEvent.{CEvent}

-- the number of an event's kind; the report of a new size and the release of a key, which a decoder
-- makes no events of, count as a size and as unknown
abbrev pub event_kind : EventValue → ℕ
event_kind unknown = 0
event_kind (input i) = 1
event_kind (paste text) = 2
event_kind (mouse m) = 3
event_kind (size columns rows) = 4
event_kind (cursor column row) = 5
event_kind focus_gained = 6
event_kind focus_lost = 7
event_kind (resized columns rows) = 4
event_kind released = 0

abbrev pub button_number : MouseButton → ℕ
button_number Left = 0
button_number Middle = 1
button_number Right = 2
button_number (Other number) = number

-- the number of what a mouse did, and that of its button, 0 if it has none
abbrev pub mouse_number : MouseKind → ℕ
mouse_number (Press button) = 0
mouse_number (Release button) = 1
mouse_number (Drag button) = 2
mouse_number Move = 3
mouse_number ReleaseAny = 4
mouse_number WheelLeft = 5
mouse_number WheelRight = 6

abbrev pub mouse_button : MouseKind → ℕ
mouse_button (Press button) = button_number button
mouse_button (Release button) = button_number button
mouse_button (Drag button) = button_number button
mouse_button other = 0

-- an event of this kind with nothing else
abbrev pub bare_event : ℕ → CEvent
bare_event kind = record { kind = kind; input = blank_input; mouse = 0; button = 0; column = 0; row = 0; bytes = 0 }

abbrev pub event_at_cell : ℕ → ℕ → CEvent → CEvent
event_at_cell column row event = record event { column = column; row = row }

abbrev pub with_mouse : Mouse → CEvent → CEvent
with_mouse m event = record event {
  input = record event.input { ctrl = m.ctrl; alt = m.alt; shift = m.shift };
  mouse = mouse_number m.kind;
  button = mouse_button m.kind;
  column = m.column;
  row = m.row;
}

-- an event as C gets it; that of a pasted text has its length
abbrev pub plain_event : EventValue → CEvent
plain_event (input i) = record (bare_event 1) { input = plain_input i }
plain_event (paste text) = record (bare_event 2) { bytes = length text }
plain_event (mouse m) = with_mouse m (bare_event 3)
plain_event (size columns rows) = event_at_cell columns rows (bare_event 4)
plain_event (cursor column row) = event_at_cell column row (bare_event 5)
plain_event (resized columns rows) = event_at_cell columns rows (bare_event 4)
plain_event other = bare_event (event_kind other)
