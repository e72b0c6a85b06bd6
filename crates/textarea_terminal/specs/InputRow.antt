-- A table of what terminals send: bytes and their event.
use Rattle.std.specs.Prelude.{◌≡◌, ◌≢◌, ℕ, ◌+◌, ◌-◌, ◌/◌, ◌%◌, ◌<◌, ◌≤◌, ◌⊎◌, Bool, true, false, nat_lt, List, [], ◌∷◌, ◌++◌, length, map, None, codes, Contains, encode_utf8, if◌then◌else◌}
use Rattle.std.specs.List.{flat_map, AllByRecursion}
use Rattle.std.specs.Char.{IsScalar}
use Rattle.textarea_data.specs.declared.input.Input.{Input}
use Rattle.textarea_data.specs.declared.input.Key.TheVariants as key
use Rattle.textarea_terminal.specs.declared.input.event.Mouse.{Mouse}
use Rattle.textarea_terminal.specs.declared.input.event.MouseKind.{MouseKind}
use Rattle.textarea_terminal.specs.declared.input.event.MouseKind.TheVariants as kind
use Rattle.textarea_terminal.specs.declared.input.event.MouseButton.{MouseButton}
use Rattle.textarea_terminal.specs.declared.input.event.MouseButton.TheVariants as button
use Rattle.textarea_terminal.specs.InputEvent.{EventValue, input, paste, mouse, size, cursor, focus_gained, focus_lost}
use Rattle.textarea_data.specs.Input.{input_of_key}
use Rattle.textarea_terminal.specs.InputKey.{ctrl_input, with_alt, input_with, letter_keys, numbered_keys, small_letter_keys, console_keys, keypad_keys, coded_keys}
use Rattle.textarea_terminal.specs.InputUnit.{paste_start, paste_end, mark_index, begins_string}
use Rattle.textarea_terminal.specs.InputSequence.{is_inner, is_final, inner_limit, is_text}

-- ---- keys

-- the last decimal digit of a number
abbrev pub digit : ℕ → ℕ
digit n = 48 + n % 10

-- a number below 100,000 in decimal digits
abbrev pub decimal : ℕ → List ℕ
decimal n =
    if nat_lt n 10 then digit n ∷ []
    else (if nat_lt n 100 then digit (n / 10) ∷ digit n ∷ []
    else (if nat_lt n 1000 then digit (n / 100) ∷ digit (n / 10) ∷ digit n ∷ []
    else (if nat_lt n 10000 then digit (n / 1000) ∷ digit (n / 100) ∷ digit (n / 10) ∷ digit n ∷ []
    else digit (n / 10000) ∷ digit (n / 1000) ∷ digit (n / 100) ∷ digit (n / 10) ∷ digit n ∷ [])))

-- ESC [ and these bytes
abbrev pub bracket : List ℕ → List ℕ
bracket bytes = 27 ∷ 91 ∷ bytes

-- the parameters of each choice of Shift, Alt and Ctrl but none
abbrev pub modifier_parameters : List ℕ
modifier_parameters = 2 ∷ 3 ∷ 4 ∷ 5 ∷ 6 ∷ 7 ∷ 8 ∷ []

-- bytes, and the input that they are
abbrev pub KeyRow : Type 0
KeyRow = List ℕ × Input

-- Ctrl with letters and signs, and the keys of one byte
unfoldable pub byte_rows : List KeyRow
byte_rows =
    map (λ c. ((c - 96) ∷ [], ctrl_input c)) (codes "abcdefgjklnopqrstuvwxyz")
    ++ map (λ c. ((c - 64) ∷ [], ctrl_input c)) (codes "\\]^_")
    ++ ((0 ∷ [], ctrl_input 32) ∷ (8 ∷ [], input_of_key key.Backspace) ∷ (127 ∷ [], input_of_key key.Backspace)
    ∷ (9 ∷ [], input_of_key key.Tab) ∷ (13 ∷ [], input_of_key key.Enter) ∷ [])

-- arrows, Home, End and F1 to F4: ESC [, ESC O, and ESC [ 1 ; modifiers
unfoldable pub letter_rows : List KeyRow
letter_rows = flat_map (λ r.
    (bracket (r.0 ∷ []), input_of_key r.1) ∷ (27 ∷ 79 ∷ r.0 ∷ [], input_of_key r.1)
    ∷ map (λ m. (bracket (49 ∷ 59 ∷ digit m ∷ r.0 ∷ []), input_with r.1 m)) modifier_parameters) letter_keys

-- numbered keys: ESC [ number ~, ESC [ number ; modifiers ~, and rxvt's: $ with Shift, ^ with Ctrl,
-- @ with both
unfoldable pub numbered_rows : List KeyRow
numbered_rows = flat_map (λ r.
    (bracket (decimal r.0 ++ 126 ∷ []), input_of_key r.1) ∷ (bracket (decimal r.0 ++ 36 ∷ []), input_with r.1 2)
    ∷ (bracket (decimal r.0 ++ 94 ∷ []), input_with r.1 5) ∷ (bracket (decimal r.0 ++ 64 ∷ []), input_with r.1 6)
    ∷ map (λ m. (bracket (decimal r.0 ++ 59 ∷ digit m ∷ 126 ∷ []), input_with r.1 m)) modifier_parameters) numbered_keys

-- rxvt's arrows with Shift and Ctrl, the Linux console's F1 to F5, Tab with Shift, and the keypad's
-- Enter
unfoldable pub other_rows : List KeyRow
other_rows =
    map (λ r. (bracket (r.0 ∷ []), input_with r.1 2)) small_letter_keys
    ++ map (λ r. (27 ∷ 79 ∷ r.0 ∷ [], input_with r.1 5)) small_letter_keys
    ++ map (λ r. (bracket (91 ∷ r.0 ∷ []), input_of_key r.1)) console_keys
    ++ ((bracket (90 ∷ []), input_with key.Tab 2) ∷ (27 ∷ 79 ∷ 77 ∷ [], input_of_key key.Enter) ∷ [])

-- Arrows, Home, End and F1 to F4 in older forms: ESC [ 1 ; modifiers with Meta, which counts as Alt; ESC [ modifiers; and
-- ESC O with modifiers, or 1 ; modifiers. Tab with Shift as ESC [ 1 ; 2 Z.
unfoldable pub older_rows : List KeyRow
older_rows = flat_map (λ r.
    (bracket (49 ∷ 59 ∷ 57 ∷ r.0 ∷ []), input_with r.1 3) ∷ (bracket (53 ∷ r.0 ∷ []), input_with r.1 5)
    ∷ (27 ∷ 79 ∷ 50 ∷ r.0 ∷ [], input_with r.1 2) ∷ (27 ∷ 79 ∷ 53 ∷ r.0 ∷ [], input_with r.1 5)
    ∷ (27 ∷ 79 ∷ 49 ∷ 59 ∷ 53 ∷ r.0 ∷ [], input_with r.1 5) ∷ []) letter_keys
    ++ ((bracket (49 ∷ 59 ∷ 50 ∷ 90 ∷ []), input_with key.Tab 2) ∷ [])

-- the keypad in its application mode, also with Ctrl
unfoldable pub keypad_rows : List KeyRow
keypad_rows =
    map (λ r. (27 ∷ 79 ∷ r.0 ∷ [], input_of_key r.1)) keypad_keys
    ++ map (λ c. (bracket (49 ∷ 59 ∷ 53 ∷ (c + 64) ∷ []), ctrl_input c)) (codes "0123456789")
    ++ ((27 ∷ 79 ∷ 69 ∷ [], input_of_key (key.Char 53)) ∷ [])

-- Keys by their codes: ESC [ code u and ESC [ code ; modifiers u (kitty), and ESC [ 27 ; modifiers ; code ~ (xterm). So are
-- letters and digits with Ctrl and Alt.
unfoldable pub coded_rows : List KeyRow
coded_rows = flat_map (λ r.
    (bracket (decimal r.0 ++ 117 ∷ []), input_of_key r.1) ∷ (bracket (decimal r.0 ++ 59 ∷ 50 ∷ 117 ∷ []), input_with r.1 2)
    ∷ (bracket (decimal r.0 ++ 59 ∷ 53 ∷ 58 ∷ 49 ∷ 117 ∷ []), input_with r.1 5)
    ∷ (bracket (50 ∷ 55 ∷ 59 ∷ 54 ∷ 59 ∷ (decimal r.0 ++ 126 ∷ [])), input_with r.1 6) ∷ []) coded_keys
    ++ flat_map (λ c.
    (bracket (decimal c ++ 59 ∷ 53 ∷ 117 ∷ []), ctrl_input c) ∷ (bracket (50 ∷ 55 ∷ 59 ∷ 53 ∷ 59 ∷ (decimal c ++ 126 ∷ [])), ctrl_input c)
    ∷ (bracket (decimal c ++ 59 ∷ 51 ∷ 117 ∷ []), with_alt (input_of_key (key.Char c))) ∷ []) (codes "abcdefghijklmnopqrstuvwxyz0123456789")

abbrev pub key_rows : List KeyRow
key_rows = byte_rows ++ letter_rows ++ numbered_rows ++ other_rows ++ older_rows ++ keypad_rows ++ coded_rows

-- ---- reports

-- The code of what a mouse did: its button, and 32 if it moved. Button 8 is 128.
abbrev pub code_of_button : MouseButton → ℕ
code_of_button button.Left = 0
code_of_button button.Middle = 1
code_of_button button.Right = 2
code_of_button (button.Other n) = n + 120

abbrev pub code_of_kind : MouseKind → ℕ
code_of_kind (kind.Press b) = code_of_button b
code_of_kind (kind.Release b) = code_of_button b
code_of_kind (kind.Drag b) = 32 + code_of_button b
code_of_kind kind.Move = 35
code_of_kind kind.ReleaseAny = 3
code_of_kind kind.WheelLeft = 66
code_of_kind kind.WheelRight = 67

-- the buttons, and what is reported of a mouse in SGR's form
pub data IsButton : MouseButton → Type 0 where
  left : IsButton button.Left
  middle : IsButton button.Middle
  right : IsButton button.Right
  eighth : IsButton (button.Other 8)
  ninth : IsButton (button.Other 9)
  tenth : IsButton (button.Other 10)
  eleventh : IsButton (button.Other 11)

pub data IsReported : MouseKind → Type 0 where
  press : (b : MouseButton) → IsButton b → IsReported (kind.Press b)
  release : (b : MouseButton) → IsButton b → IsReported (kind.Release b)
  drag : (b : MouseButton) → IsButton b → IsReported (kind.Drag b)
  move : IsReported kind.Move
  wheel_left : IsReported kind.WheelLeft
  wheel_right : IsReported kind.WheelRight

-- M, or m if a button is released
abbrev pub last_of_kind : MouseKind → ℕ
last_of_kind (kind.Release b) = 109
last_of_kind _ = 77

-- a code with modifiers
abbrev pub with_modifiers : ℕ → Bool → Bool → Bool → ℕ
with_modifiers code ctrl alt shift = code + (if ctrl then 16 else 0) + (if alt then 8 else 0) + (if shift then 4 else 0)

-- the report of a code, in a column and a row from 0, with its last byte
abbrev pub mouse_report : ℕ → ℕ → ℕ → ℕ → List ℕ
mouse_report code column row last = bracket (60 ∷ (decimal code ++ 59 ∷ (decimal (column + 1) ++ 59 ∷ (decimal (row + 1) ++ last ∷ []))))

-- the replies to a query of the size, and of the cursor's position
abbrev pub size_report : ℕ → ℕ → List ℕ
size_report columns rows = bracket (56 ∷ 59 ∷ (decimal rows ++ 59 ∷ (decimal columns ++ 116 ∷ [])))

abbrev pub cursor_report : ℕ → ℕ → List ℕ
cursor_report column row = bracket (63 ∷ (decimal (row + 1) ++ 59 ∷ (decimal (column + 1) ++ 82 ∷ [])))

-- ---- all rows

-- these bytes are what terminals send for this event
pub data IsSentFor : List ℕ → EventValue → Type 0 where
  key_row : (row : KeyRow) → Contains key_rows row → IsSentFor row.0 (input row.1)
  alt_key_row : (row : KeyRow) → Contains key_rows row → IsSentFor (27 ∷ row.0) (input (with_alt row.1))
  character_row : (c : ℕ) → IsScalar c → 32 ≤ c → (c < 127) ⊎ (160 ≤ c) → IsSentFor (encode_utf8 c) (input (input_of_key (key.Char c)))
  alt_character_row : (c : ℕ) → IsScalar c → 32 ≤ c → (c < 127) ⊎ (160 ≤ c) → c ≢ 91 → c ≢ 79 → begins_string c ≡ false → IsSentFor (27 ∷ encode_utf8 c) (input (with_alt (input_of_key (key.Char c))))
  paste_row : (text : List ℕ) → mark_index paste_end text ≡ None → IsSentFor (paste_start ++ text ++ paste_end) (paste text)
  mouse_row : (m : Mouse) → IsReported m.kind → m.column + 1 < 65536 → m.row + 1 < 65536
      → IsSentFor (mouse_report (with_modifiers (code_of_kind m.kind) m.ctrl m.alt m.shift) m.column m.row (last_of_kind m.kind)) (mouse m)
  wheel_up_row : (column row : ℕ) (ctrl alt shift : Bool) → column + 1 < 65536 → row + 1 < 65536
      → IsSentFor (mouse_report (with_modifiers 64 ctrl alt shift) column row 77) (input (record { key = key.MouseScrollUp; ctrl = ctrl; alt = alt; shift = shift }))
  wheel_down_row : (column row : ℕ) (ctrl alt shift : Bool) → column + 1 < 65536 → row + 1 < 65536
      → IsSentFor (mouse_report (with_modifiers 65 ctrl alt shift) column row 77) (input (record { key = key.MouseScrollDown; ctrl = ctrl; alt = alt; shift = shift }))
  size_row : (columns rows : ℕ) → columns < 65536 → rows < 65536 → IsSentFor (size_report columns rows) (size columns rows)
  cursor_row : (column row : ℕ) → column + 1 < 65536 → row + 1 < 65536 → IsSentFor (cursor_report column row) (cursor column row)
  focus_gained_row : IsSentFor (bracket (73 ∷ [])) focus_gained
  focus_lost_row : IsSentFor (bracket (79 ∷ [])) focus_lost

-- rows, one after another
abbrev pub bytes_of_rows : List (List ℕ × EventValue) → List ℕ
bytes_of_rows rows = flat_map (λ r. r.0) rows

-- ---- control sequences of the general form

-- parameters and intermediate bytes, with no $
abbrev pub AreInner : List ℕ → Type 0
AreInner bytes = AllByRecursion (λ b. (is_inner b ≡ true) × (b ≢ 36)) bytes

-- Parameters and intermediate bytes, with no $, that with this final byte are no start mark of a
-- pasted text and begin no sequence of the Linux console and no report of an old mouse.
pub record IsGeneral (inner : List ℕ) (last : ℕ) : Type 0 where
  pub inner_bytes : AreInner inner
  pub short : length inner < inner_limit
  pub last_byte : is_final last ≡ true
  pub no_paste : last ≡ 126 → inner ≢ 50 ∷ 48 ∷ 48 ∷ []
  pub no_console : last ≡ 91 → inner ≢ []
  pub no_mouse : last ≡ 77 → inner ≢ []

-- ---- strings

-- the bytes of a string
abbrev pub AreText : List ℕ → Type 0
AreText bytes = AllByRecursion (λ b. is_text b ≡ true) bytes

-- an ESC, the introducer of a string, and at most 1 MiB
pub record BeginsString (bytes : List ℕ) : Type 0 where
  pub introducer : ℕ
  pub text : List ℕ
  pub whole : bytes ≡ 27 ∷ introducer ∷ text
  pub is : begins_string introducer ≡ true
  pub short : length bytes ≤ 1048576
