-- The keys of a terminal, in tables.
use Rattle.std.specs.Prelude.{ℕ, ◌+◌, ◌-◌, Bool, true, false, not, ◌==◌, ◌&&◌, ◌||◌, nat_lt, List, [], ◌∷◌, Option, Some, None, bit_and, if◌then◌else◌}
use Rattle.std.specs.Int.{is_in_range}
use Rattle.textarea_data.specs.declared.input.Input.{Input}
use Rattle.textarea_data.specs.declared.input.Key.{Key}
use Rattle.textarea_data.specs.declared.input.Key.TheVariants as key
use Rattle.textarea_data.specs.Input.{input_of_key}
use Rattle.textarea_terminal.specs.InputEvent.{EventValue, input, unknown}

-- ---- inputs

-- a character with Ctrl
abbrev pub ctrl_input : ℕ → Input
ctrl_input c = record { key = key.Char c; ctrl = true; alt = false; shift = false }

-- the same input with Alt
abbrev pub with_alt : Input → Input
with_alt i = record { key = i.key; ctrl = i.ctrl; alt = true; shift = i.shift }

-- whether a parameter of modifiers has some of these: it is 1 plus 1 for Shift, 2 for Alt, 4 for Ctrl, 8 for Meta (xterm,
-- "Modifiers") or Super, 16 for Hyper, 32 for Meta, 64 and 128 for locks (kitty)
abbrev pub has_modifier_bits : ℕ → ℕ → Bool
has_modifier_bits parameter bits = not (bit_and (parameter - 1) bits == 0)

-- A key with the modifiers of a parameter. Meta and Super count as Alt; 0 and 1 are no modifier.
abbrev pub input_with : Key → ℕ → Input
input_with k parameter =
    record { key = k; ctrl = has_modifier_bits parameter 4; alt = has_modifier_bits parameter 42; shift = has_modifier_bits parameter 1 }

-- the event of a key, if there is one, and of a modifier parameter
abbrev pub key_event : Option Key → ℕ → EventValue
key_event None parameter = unknown
key_event (Some k) parameter = input (input_with k parameter)

-- ---- tables

-- the entry of a table for a number
abbrev pub entry : {A : Type 0} → List (ℕ × A) → ℕ → Option A
entry [] n = None
entry (row ∷ rows) n = if n == row.0 then Some row.1 else entry rows n

-- the first of two keys that there is
abbrev pub or_key : Option Key → Option Key → Option Key
or_key (Some k) other = Some k
or_key None other = other

-- The letters that end the sequences ESC [, ESC [ 1 ; modifiers and ESC O (ECMA-48's cursor keys; xterm, "PC-Style Function
-- Keys" and "VT220-Style Function Keys").
abbrev pub letter_keys : List (ℕ × Key)
letter_keys =
    (65, key.Up) ∷ (66, key.Down) ∷ (67, key.Right) ∷ (68, key.Left) ∷ (70, key.End) ∷ (72, key.Home)
    ∷ (80, key.F 1) ∷ (81, key.F 2) ∷ (82, key.F 3) ∷ (83, key.F 4) ∷ []

-- The numbers of the sequences that end in ~ (xterm, "VT220-Style Function Keys"; 7 and 8 are rxvt's). Insert, 2, is no key
-- of its own, and comes as Null.
abbrev pub numbered_keys : List (ℕ × Key)
numbered_keys =
    (1, key.Home) ∷ (2, key.Null) ∷ (3, key.Delete) ∷ (4, key.End) ∷ (5, key.PageUp) ∷ (6, key.PageDown) ∷ (7, key.Home) ∷ (8, key.End)
    ∷ (11, key.F 1) ∷ (12, key.F 2) ∷ (13, key.F 3) ∷ (14, key.F 4) ∷ (15, key.F 5)
    ∷ (17, key.F 6) ∷ (18, key.F 7) ∷ (19, key.F 8) ∷ (20, key.F 9) ∷ (21, key.F 10) ∷ (23, key.F 11) ∷ (24, key.F 12)
    ∷ (25, key.F 13) ∷ (26, key.F 14) ∷ (28, key.F 15) ∷ (29, key.F 16) ∷ (31, key.F 17) ∷ (32, key.F 18) ∷ (33, key.F 19) ∷ (34, key.F 20) ∷ []

-- the letters of rxvt's arrows: with Shift after ESC [, with Ctrl after ESC O
abbrev pub small_letter_keys : List (ℕ × Key)
small_letter_keys = (97, key.Up) ∷ (98, key.Down) ∷ (99, key.Right) ∷ (100, key.Left) ∷ []

-- the letters after ESC [ [ of the Linux console
abbrev pub console_keys : List (ℕ × Key)
console_keys = (65, key.F 1) ∷ (66, key.F 2) ∷ (67, key.F 3) ∷ (68, key.F 4) ∷ (69, key.F 5) ∷ []

-- the letters of the keypad after ESC O, in its application mode, and after ESC [ 1 ; modifiers (xterm, "VT220-Style Function
-- Keys"): a space, Tab, Enter, = and * + , - . / 0 to 9
abbrev pub keypad_keys : List (ℕ × Key)
keypad_keys =
    (32, key.Char 32) ∷ (73, key.Tab) ∷ (77, key.Enter) ∷ (88, key.Char 61)
    ∷ (106, key.Char 42) ∷ (107, key.Char 43) ∷ (108, key.Char 44) ∷ (109, key.Char 45) ∷ (110, key.Char 46) ∷ (111, key.Char 47)
    ∷ (112, key.Char 48) ∷ (113, key.Char 49) ∷ (114, key.Char 50) ∷ (115, key.Char 51) ∷ (116, key.Char 52)
    ∷ (117, key.Char 53) ∷ (118, key.Char 54) ∷ (119, key.Char 55) ∷ (120, key.Char 56) ∷ (121, key.Char 57) ∷ []

-- the codes of keys that are no characters (kitty, "Functional key definitions"): Backspace, Tab, Enter and Esc, F13 to F35, and
-- the keypad's
abbrev pub coded_keys : List (ℕ × Key)
coded_keys =
    (8, key.Backspace) ∷ (9, key.Tab) ∷ (13, key.Enter) ∷ (27, key.Esc) ∷ (127, key.Backspace)
    ∷ (57376, key.F 13) ∷ (57377, key.F 14) ∷ (57378, key.F 15) ∷ (57379, key.F 16) ∷ (57380, key.F 17) ∷ (57381, key.F 18)
    ∷ (57382, key.F 19) ∷ (57383, key.F 20) ∷ (57384, key.F 21) ∷ (57385, key.F 22) ∷ (57386, key.F 23) ∷ (57387, key.F 24)
    ∷ (57388, key.F 25) ∷ (57389, key.F 26) ∷ (57390, key.F 27) ∷ (57391, key.F 28) ∷ (57392, key.F 29) ∷ (57393, key.F 30)
    ∷ (57394, key.F 31) ∷ (57395, key.F 32) ∷ (57396, key.F 33) ∷ (57397, key.F 34) ∷ (57398, key.F 35)
    ∷ (57399, key.Char 48) ∷ (57400, key.Char 49) ∷ (57401, key.Char 50) ∷ (57402, key.Char 51) ∷ (57403, key.Char 52)
    ∷ (57404, key.Char 53) ∷ (57405, key.Char 54) ∷ (57406, key.Char 55) ∷ (57407, key.Char 56) ∷ (57408, key.Char 57)
    ∷ (57409, key.Char 46) ∷ (57410, key.Char 47) ∷ (57411, key.Char 42) ∷ (57412, key.Char 45) ∷ (57413, key.Char 43)
    ∷ (57414, key.Enter) ∷ (57415, key.Char 61) ∷ (57416, key.Char 44)
    ∷ (57417, key.Left) ∷ (57418, key.Right) ∷ (57419, key.Up) ∷ (57420, key.Down) ∷ (57421, key.PageUp) ∷ (57422, key.PageDown)
    ∷ (57423, key.Home) ∷ (57424, key.End) ∷ (57425, key.Null) ∷ (57426, key.Delete) ∷ []

-- The bytes below 128, other than ESC: Ctrl with a space, the letters and \ ] ^ _ gives the byte 64 below the character's
-- capital (ECMA-48's C0); but 8 and 127 are Backspace, 9 is Tab and 13 is Enter, and 10 stays Ctrl with j.
abbrev pub byte_input : ℕ → Input
byte_input b =
    if b == 0 then ctrl_input 32
    else (if b == 8 then input_of_key key.Backspace
    else (if b == 9 then input_of_key key.Tab
    else (if b == 13 then input_of_key key.Enter
    else (if b == 127 then input_of_key key.Backspace
    else (if nat_lt b 27 then ctrl_input (b + 96)
    else (if nat_lt b 32 then ctrl_input (b + 64)
    else input_of_key (key.Char b)))))))

-- The byte after ESC O: the letters above, rxvt's arrows with Ctrl, and the keypad's keys; E is its 5 without NumLock.
abbrev pub single_event : ℕ → EventValue
single_event letter =
    if is_in_range 97 100 letter then key_event (entry small_letter_keys letter) 5
    else (if letter == 69 then input (input_of_key (key.Char 53))
    else key_event (or_key (entry letter_keys letter) (entry keypad_keys letter)) 1)

-- ---- keys by the codes of their characters

-- Whether a code is a character that a key types: none of the controls, none of kitty's private codes (57344 to 63743), and none
-- above Unicode's last.
abbrev pub is_typed_code : ℕ → Bool
is_typed_code c = is_in_range 32 126 c || is_in_range 160 55295 c || is_in_range 63744 1114111 c

-- The character of a key by its code, which is its character without Shift; by the character with Shift (0 if it isn't told);
-- and by the text that it types (0 if it isn't told). Where only the code is told, Shift changes the letters of ASCII.
abbrev pub character_of_code : ℕ → ℕ → ℕ → Bool → ℕ
character_of_code code shifted text shift =
    if not (text == 0) then text
    else (if not shift then code
    else (if not (shifted == 0) then shifted
    else (if is_in_range 97 122 code then code - 32 else code)))

-- A character with modifiers. Shift alone is in the character.
abbrev pub typed_event : ℕ → Input → EventValue
typed_event c i =
    if is_typed_code c then input (record { key = key.Char c; ctrl = i.ctrl; alt = i.alt; shift = i.shift && (i.ctrl || i.alt) }) else unknown

-- the event of a key by its code, its character with Shift, the text, and a parameter of modifiers (kitty, "CSI u"; xterm,
-- "modifyOtherKeys")
abbrev pub coded_by : Option Key → ℕ → ℕ → ℕ → ℕ → EventValue
coded_by (Some k) code shifted text parameter = input (input_with k parameter)
coded_by None code shifted text parameter =
    typed_event (character_of_code code shifted text (has_modifier_bits parameter 1)) (input_with key.Null parameter)

unfoldable pub coded_event : ℕ → ℕ → ℕ → ℕ → EventValue
coded_event code shifted text parameter = coded_by (entry coded_keys code) code shifted text parameter
