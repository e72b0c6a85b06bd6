-- The events of a terminal's bytes, one after another from the front.
use Rattle.std.specs.Prelude.{ℕ, ◌+◌, ◌==◌, ◌||◌, Bool, nat_lt, List, [], ◌∷◌, Option, Some, None, option_map, is_some, take, drop, suc, if◌then◌else◌}
use Rattle.std.specs.Int.{is_in_range}
use Rattle.textarea_data.specs.declared.input.Key.TheVariants as key
use Rattle.textarea_terminal.specs.InputEvent.{EventValue, EventAndRest, input, paste, unknown}
use Rattle.textarea_data.specs.Input.{input_of_key}
use Rattle.textarea_terminal.specs.InputKey.{with_alt, byte_input, single_event}
use Rattle.textarea_terminal.specs.InputCharacter.{utf8_character}
use Rattle.textarea_terminal.specs.InputSequence.{bracket_at, control_at, string_at}

-- ---- keys with a character, and sequences

-- the event of a character from 128 on; the controls of C1 type nothing
abbrev pub character_event : ℕ → EventValue
character_event c = if nat_lt c 160 then unknown else input (input_of_key (key.Char c))

-- the event of a first byte that isn't ESC, and of those after it
unfoldable pub key_at : ℕ → List ℕ → EventAndRest
key_at a bytes =
    if nat_lt a 128 then Some (input (byte_input a), bytes)
    else (if nat_lt a 160 then Some (unknown, bytes)
    else option_map (λ x. (character_event x.0, x.1)) (utf8_character a bytes))

-- The event of ESC O and these bytes: by a byte from 32 to 126, or else Alt with O. A digit or a semicolon begins parameters,
-- as after ESC [.
unfoldable pub single_at : List ℕ → EventAndRest
single_at [] = None
single_at (b ∷ bytes) =
    if is_in_range 48 59 b then control_at (b ∷ bytes)
    else (if is_in_range 32 126 b then Some (single_event b, bytes) else Some (input (with_alt (input_of_key (key.Char 79))), b ∷ bytes))

-- an ESC before a sequence: Alt with the sequence's key or step of the wheel; before another sequence, which begins at `sequence`,
-- the key Esc
abbrev pub with_escape : List ℕ → EventValue × List ℕ → EventValue × List ℕ
with_escape sequence (input i, bytes) = (input (with_alt i), bytes)
with_escape sequence (other, bytes) = (input (input_of_key key.Esc), sequence)

-- the event of ESC ESC and these bytes; `second` begins at the second ESC
unfoldable pub second_escape_at : List ℕ → List ℕ → EventAndRest
second_escape_at second [] = None
second_escape_at second (b ∷ bytes) =
    if b == 91 then option_map (with_escape second) (bracket_at bytes)
    else (if b == 79 then option_map (with_escape second) (single_at bytes)
    else Some (input (input_of_key key.Esc), second))

-- an ESC before a key: Alt with it
abbrev pub alt_event : EventValue → EventValue
alt_event (input i) = input (with_alt i)
alt_event other = other

-- the bytes after ESC that begin a string: P, X, ], ^ and _ (ECMA-48's DCS, SOS, OSC, PM and APC)
abbrev pub begins_string : ℕ → Bool
begins_string b = b == 80 || b == 88 || is_in_range 93 95 b

-- the event of ESC and these bytes: a sequence, a string, or a key with Alt
unfoldable pub escape_at : List ℕ → EventAndRest
escape_at [] = None
escape_at (b ∷ bytes) =
    if b == 91 then bracket_at bytes
    else (if b == 79 then single_at bytes
    else (if b == 27 then second_escape_at (b ∷ bytes) bytes
    else (if begins_string b then string_at bytes
    else option_map (λ x. (alt_event x.0, x.1)) (key_at b bytes))))

unfoldable pub key_or_sequence : List ℕ → EventAndRest
key_or_sequence [] = None
key_or_sequence (b ∷ bytes) = if b == 27 then escape_at bytes else key_at b bytes

-- ---- pasted texts

-- the marks around a pasted text (xterm, "Bracketed Paste Mode"): ESC [ 2 0 0 ~ and ESC [ 2 0 1 ~
abbrev pub paste_start : List ℕ
paste_start = 27 ∷ 91 ∷ 50 ∷ 48 ∷ 48 ∷ 126 ∷ []

abbrev pub paste_end : List ℕ
paste_end = 27 ∷ 91 ∷ 50 ∷ 48 ∷ 49 ∷ 126 ∷ []

-- the bytes after a mark at the front
unfoldable pub after_mark : List ℕ → List ℕ → Option (List ℕ)
after_mark [] bytes = Some bytes
after_mark (m ∷ mark) [] = None
after_mark (m ∷ mark) (b ∷ bytes) = if b == m then after_mark mark bytes else None

-- the index of the first mark
unfoldable pub mark_index : List ℕ → List ℕ → Option ℕ
mark_index mark [] = None
mark_index mark (b ∷ bytes) = if is_some (after_mark mark (b ∷ bytes)) then Some 0 else option_map suc (mark_index mark bytes)

-- a pasted text ends at the first end mark, whatever its bytes are
abbrev pub paste_before : List ℕ → ℕ → EventValue × List ℕ
paste_before bytes index = (paste (take index bytes), drop (index + 6) bytes)

unfoldable pub paste_at : List ℕ → EventAndRest
paste_at bytes = option_map (paste_before bytes) (mark_index paste_end bytes)

-- ---- all

abbrev pub paste_or : Option (List ℕ) → EventAndRest → EventAndRest
paste_or (Some text) other = paste_at text
paste_or None other = other

-- the event at the front
unfoldable pub unit_at : List ℕ → EventAndRest
unit_at bytes = paste_or (after_mark paste_start bytes) (key_or_sequence bytes)
