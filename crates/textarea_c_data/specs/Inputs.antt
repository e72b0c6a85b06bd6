-- The inputs that C passes.
use Rattle.std.specs.Prelude.{ℕ, ◌==◌, nat_lt, false, if◌then◌else◌, List, [], ◌∷◌, Option, Some, None, option_map}
use lib.Utf8.{scalar}
use Rattle.textarea_data.specs.declared.input.Key.{Key}
use Rattle.textarea_data.specs.declared.input.Key.TheVariants as key
use Rattle.textarea_data.specs.declared.input.Input.{Input}
use Rattle.textarea_c_data.specs.declared.input.CInput.{CInput as PlainInput}
use Rattle.textarea_c_data.specs.Tables.{value_of_number}

-- the keys that take no argument
abbrev pub plain_keys : List (ℕ × Key)
plain_keys =
    (0, key.Null) ∷ (3, key.Backspace) ∷ (4, key.Enter) ∷ (5, key.Left) ∷ (6, key.Right) ∷ (7, key.Up) ∷ (8, key.Down) ∷ (9, key.Tab) ∷ (10, key.Delete)
    ∷ (11, key.Home) ∷ (12, key.End) ∷ (13, key.PageUp) ∷ (14, key.PageDown) ∷ (15, key.Esc) ∷ (16, key.Copy) ∷ (17, key.Cut) ∷ (18, key.Paste)
    ∷ (19, key.MouseScrollDown) ∷ (20, key.MouseScrollUp) ∷ []

-- the character of a number, unless it is a surrogate or too large
abbrev pub character_of_number : ℕ → Option ℕ
character_of_number number = if scalar number then Some number else None

-- the key of a number; 1 is that of a character, and 2 that of a function key
abbrev pub key_read : ℕ → ℕ → Option Key
key_read number argument =
    if number == 1 then option_map key.Char (character_of_number argument)
    else if number == 2 then (if nat_lt argument 256 then Some (key.F argument) else None)
    else value_of_number plain_keys number

abbrev pub input_read : PlainInput → Option Input
input_read i = option_map (λ k. record { key = k; ctrl = i.ctrl; alt = i.alt; shift = i.shift }) (key_read i.key i.argument)

-- a key as C gets it: its number, and that of its character or of the function key
abbrev pub key_number : Key → ℕ
key_number key.Null = 0
key_number (key.Char c) = 1
key_number (key.F n) = 2
key_number key.Backspace = 3
key_number key.Enter = 4
key_number key.Left = 5
key_number key.Right = 6
key_number key.Up = 7
key_number key.Down = 8
key_number key.Tab = 9
key_number key.Delete = 10
key_number key.Home = 11
key_number key.End = 12
key_number key.PageUp = 13
key_number key.PageDown = 14
key_number key.Esc = 15
key_number key.Copy = 16
key_number key.Cut = 17
key_number key.Paste = 18
key_number key.MouseScrollDown = 19
key_number key.MouseScrollUp = 20

abbrev pub key_argument : Key → ℕ
key_argument (key.Char c) = c
key_argument (key.F n) = n
key_argument other = 0

abbrev pub plain_input : Input → PlainInput
plain_input i = record { key = key_number i.key; argument = key_argument i.key; ctrl = i.ctrl; alt = i.alt; shift = i.shift }

-- no key, without modifiers
abbrev pub blank_input : PlainInput
blank_input = record { key = 0; argument = 0; ctrl = false; alt = false; shift = false }
