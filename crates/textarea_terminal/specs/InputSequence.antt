-- Control sequences (ECMA-48, 5.4): ESC [, then parameters and intermediate bytes, which are 32 to 63, then a final byte from
-- 64 to 126. The definitions take the bytes after ESC [.
use Rattle.std.specs.Prelude.{ℕ, zero, suc, ◌+◌, ◌-◌, ◌*◌, Bool, true, ◌&&◌, ◌||◌, not, ◌==◌, nat_le, List, [], ◌∷◌, Option, Some, None, option_map, take, drop, if◌then◌else◌}
use Rattle.std.specs.Int.{is_in_range}
use Rattle.textarea_data.specs.declared.input.Input.{Input}
use Rattle.textarea_data.specs.declared.input.Key.{Key}
use Rattle.textarea_data.specs.declared.input.Key.TheVariants as key
use Rattle.textarea_terminal.specs.declared.input.parameter.Parameters.{Parameters}
use Rattle.textarea_terminal.specs.InputEvent.{EventValue, EventAndRest, input, size, resized, cursor, focus_gained, focus_lost, released, unknown}
use Rattle.textarea_data.specs.Input.{input_of_key}
use Rattle.textarea_terminal.specs.InputKey.{with_alt, input_with, key_event, entry, or_key, letter_keys, numbered_keys, small_letter_keys, console_keys, keypad_keys, coded_event}
use Rattle.textarea_terminal.specs.InputReading.{bound}
use Rattle.textarea_terminal.specs.InputCharacter.{is_continuation, code_of_two}
use Rattle.textarea_terminal.specs.InputParameter.{is_digit, clamped_to_u16, parameters_of}
use Rattle.textarea_terminal.specs.InputMouse.{mouse_event, raised_mouse_event}

-- ---- the event of a sequence, by its parameters and its final byte

-- The letters with no modifier: focus in and out (xterm, "FocusIn/FocusOut"), Z for Tab with Shift, rxvt's arrows with Shift,
-- and the keys above.
abbrev pub letter_event : ℕ → EventValue
letter_event last =
    if last == 73 then focus_gained
    else (if last == 79 then focus_lost
    else (if last == 90 then input (input_with key.Tab 2)
    else (if is_in_range 97 100 last then key_event (entry small_letter_keys last) 2
    else key_event (entry letter_keys last) 1)))

-- A number and ~ is a key; rxvt has ^ with Ctrl, and @ with Ctrl and Shift. A letter after a number from 2 on has these modifiers
-- (rxvt, and xterm's older forms).
unfoldable pub event_of_one : ℕ → ℕ → EventValue
event_of_one number last =
    if last == 126 then key_event (entry numbered_keys number) 1
    else (if last == 94 then key_event (entry numbered_keys number) 5
    else (if last == 64 then key_event (entry numbered_keys number) 6
    else (if nat_le number 1 then letter_event last else key_event (entry letter_keys last) number)))

-- the same input with Shift
abbrev pub with_shift : Input → Input
with_shift i = record { key = i.key; ctrl = i.ctrl; alt = i.alt; shift = true }

-- A key with modifiers: a number and ~, or 1 and a letter.
unfoldable pub event_of_two : ℕ → ℕ → ℕ → EventValue
event_of_two first second last =
    if last == 126 then key_event (entry numbered_keys first) second
    else (if not (first == 1) then unknown
    else (if last == 90 then input (with_shift (input_with key.Tab second))
    else key_event (or_key (entry letter_keys last) (entry keypad_keys last)) second))

-- A key by its code after 27 and modifiers (xterm, "modifyOtherKeys"), the reply to a query of the size in cells, which ends in t:
-- 8, the rows and the columns (xterm, "Window manipulation"), or a report of a mouse (mode 1015), which ends in M.
unfoldable pub event_of_three : ℕ → ℕ → ℕ → ℕ → EventValue
event_of_three first second third last =
    if last == 77 then raised_mouse_event first second third
    else (if last == 126 && first == 27 then coded_event third 0 0 second
    else (if last == 116 && first == 8 then size (clamped_to_u16 third) (clamped_to_u16 second) else unknown))

-- the size in the terminal's own time (mode 2048), which ends in t: 48, the rows and the columns, and others
unfoldable pub event_of_more : ℕ → ℕ → ℕ → ℕ → EventValue
event_of_more first second third last = if last == 116 && first == 48 then resized (clamped_to_u16 third) (clamped_to_u16 second) else unknown

-- by the number of parameters
abbrev pub event_by_count : Parameters → ℕ → EventValue
event_by_count p last =
    if p.count == 1 then event_of_one p.first last
    else (if p.count == 2 then event_of_two p.first p.second last
    else (if p.count == 3 then event_of_three p.first p.second p.third last else event_of_more p.first p.second p.third last))

-- A key that goes up makes no event (kitty, "Event types"). What ends in u is a key by its code, but with the code 1 the keypad's
-- 5 (xterm).
unfoldable pub event_of : Parameters → ℕ → EventValue
event_of p last =
    if p.count == 0 then unknown
    else (if p.kind == 3 then released
    else (if last == 117 && not (p.first == 1) then (if p.count == 4 then unknown else coded_event p.first p.shifted p.third p.second)
    else event_by_count p last))

-- a mouse's report has three parameters
abbrev pub mouse_event_of : Parameters → ℕ → EventValue
mouse_event_of p last = if p.count == 3 then mouse_event p.first p.second p.third last else unknown

-- the cursor's position, from a row and a column that are counted from 1
abbrev pub cursor_event : ℕ → ℕ → EventValue
cursor_event row column = if row == 0 || column == 0 then unknown else cursor (clamped_to_u16 column - 1) (clamped_to_u16 row - 1)

-- The reply to a query of the cursor's position, whose bytes begin with ?, ends in R: the row and the column, and maybe a page.
abbrev pub reply_event_of : Parameters → ℕ → EventValue
reply_event_of p last =
    if last == 82 && (p.count == 2 || p.count == 3) then cursor_event p.first p.second else unknown

-- the event by the bytes between ESC [ and the final byte; those of a mouse report begin with <, those of a reply with ?
unfoldable pub sequence_event : List ℕ → ℕ → EventValue
sequence_event [] last = event_of (parameters_of []) last
sequence_event (b ∷ bytes) last =
    if b == 60 then mouse_event_of (parameters_of bytes) last
    else (if b == 63 then reply_event_of (parameters_of bytes) last else event_of (parameters_of (b ∷ bytes)) last)

-- ---- where a sequence ends

-- parameters and intermediate bytes
abbrev pub is_inner : ℕ → Bool
is_inner b = is_in_range 32 63 b

abbrev pub is_final : ℕ → Bool
is_final b = is_in_range 64 126 b

-- the number of bytes at the front that pass a test, at most a limit
unfoldable pub count_front : (ℕ → Bool) → ℕ → List ℕ → ℕ
count_front test zero bytes = 0
count_front test (suc most) [] = 0
count_front test (suc most) (b ∷ bytes) = if test b then suc (count_front test most bytes) else 0

-- A sequence without an end in its first 4,096 bytes, with ESC [, is unknown.
abbrev pub inner_limit : ℕ
inner_limit = 4094

-- ESC [ that begins no sequence is Alt with [; an interrupted sequence is unknown.
abbrev pub broken_event : List ℕ → EventValue
broken_event [] = input (with_alt (input_of_key (key.Char 91)))
broken_event (b ∷ bytes) = unknown

-- the byte after ESC [ [ is a function key of the Linux console
unfoldable pub console_at : List ℕ → EventAndRest
console_at [] = None
console_at (b ∷ bytes) = if is_in_range 32 126 b then Some (key_event (entry console_keys b) 1, bytes) else Some (unknown, b ∷ bytes)

-- A number of a mouse's report in bytes: a byte, or in mode 1005 a character of two bytes. Where bytes are both, they are the
-- character.
unfoldable pub value_of_two : ℕ → List ℕ → Option (ℕ × List ℕ)
value_of_two b [] = None
value_of_two b (c ∷ bytes) = if is_continuation c then Some (code_of_two b c, bytes) else Some (b, c ∷ bytes)

unfoldable pub value_at : List ℕ → Option (ℕ × List ℕ)
value_at [] = None
value_at (b ∷ bytes) = if is_in_range 0xC2 0xDF b then value_of_two b bytes else Some (b, bytes)

-- the report of a mouse in three numbers that 32 is added to (xterm, "X10 compatibility mode", and mode 1005)
abbrev pub third_value : ℕ → ℕ → Option (ℕ × List ℕ) → EventAndRest
third_value code column o = option_map (λ x. (raised_mouse_event code (column - 32) (x.0 - 32), x.1)) o

abbrev pub second_value : ℕ → Option (ℕ × List ℕ) → EventAndRest
second_value code o = bound (λ x. third_value code x.0 (value_at x.1)) o

unfoldable pub old_mouse_at : List ℕ → EventAndRest
old_mouse_at bytes = bound (λ x. second_value x.0 (value_at x.1)) (value_at bytes)

-- the sequence of inner bytes and a final byte, and the bytes after it
unfoldable pub final_at : List ℕ → ℕ → List ℕ → EventAndRest
final_at [] last bytes =
    if last == 91 then console_at bytes else (if last == 77 then old_mouse_at bytes else Some (sequence_event [] last, bytes))
final_at (b ∷ inner) last bytes = Some (sequence_event (b ∷ inner) last, bytes)

-- A byte that is neither inner nor final interrupts a sequence, and begins the next event.
unfoldable pub after_inner : List ℕ → List ℕ → EventAndRest
after_inner inner [] = None
after_inner inner (b ∷ bytes) = if is_final b then final_at inner b bytes else Some (broken_event inner, b ∷ bytes)

unfoldable pub control_at : List ℕ → EventAndRest
control_at bytes = let n = count_front is_inner inner_limit bytes in
    if n == inner_limit then Some (unknown, drop n bytes) else after_inner (take n bytes) (drop n bytes)

-- rxvt's keys with Shift are one digit or two and $, which is an intermediate byte of ECMA-48.
abbrev pub shift_key : Option Key → List ℕ → EventAndRest
shift_key None bytes = None
shift_key (Some k) bytes = Some (input (input_with k 2), bytes)

unfoldable pub shift_key_after_two : ℕ → List ℕ → EventAndRest
shift_key_after_two number [] = None
shift_key_after_two number (b ∷ bytes) = if b == 36 then shift_key (entry numbered_keys number) bytes else None

unfoldable pub shift_key_after_one : ℕ → List ℕ → EventAndRest
shift_key_after_one number [] = None
shift_key_after_one number (b ∷ bytes) =
    if b == 36 then shift_key (entry numbered_keys number) bytes
    else (if is_digit b then shift_key_after_two (10 * number + (b - 48)) bytes else None)

unfoldable pub shift_key_at : List ℕ → EventAndRest
shift_key_at [] = None
shift_key_at (b ∷ bytes) = if is_digit b then shift_key_after_one (b - 48) bytes else None

-- what is after ESC [
abbrev pub or_else : EventAndRest → EventAndRest → EventAndRest
or_else (Some x) other = Some x
or_else None other = other

unfoldable pub bracket_at : List ℕ → EventAndRest
bracket_at bytes = or_else (shift_key_at bytes) (control_at bytes)

-- ---- strings

-- The bytes of a string, which end at BEL or ESC (ECMA-48, 5.6; xterm, "Operating System Commands").
abbrev pub is_text : ℕ → Bool
is_text b = not (b == 7 || b == 27)

-- A string without an end in its first 1,048,576 bytes, with its introducer, is unknown.
abbrev pub text_limit : ℕ
text_limit = 1048574

-- A string ends with BEL or ESC \. Another ESC, at which `bytes` begins, interrupts it, and begins the next event.
unfoldable pub after_text_escape : List ℕ → List ℕ → EventAndRest
after_text_escape bytes [] = None
after_text_escape bytes (c ∷ after) = if c == 92 then Some (unknown, after) else Some (unknown, bytes)

unfoldable pub after_text : List ℕ → EventAndRest
after_text [] = None
after_text (b ∷ bytes) = if b == 7 then Some (unknown, bytes) else after_text_escape (b ∷ bytes) bytes

-- what is after the introducer of a string
unfoldable pub string_at : List ℕ → EventAndRest
string_at bytes = let n = count_front is_text text_limit bytes in
    if n == text_limit then Some (unknown, drop n bytes) else after_text (drop n bytes)
