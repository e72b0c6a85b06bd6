-- How an input is read: the modifier keys, and a key.
use Rattle.std.specs.Prelude.{ℕ, Bool, true, false, if◌then◌else◌, List, [], ◌∷◌, bytes_eq, codes, Option, Some, None, option_map}
use Rattle.textarea_data.specs.declared.input.Input.{Input}
use Rattle.textarea_data.specs.declared.input.Key.{Key}
use Rattle.textarea_data.specs.declared.input.Key.TheVariants as key
use Rattle.textarea_script_syntax.specs.Arguments.{both, byte_number, named, split_first}
use Rattle.textarea_script_syntax.specs.Escapes.{character}

-- the modifier keys that are held, as (Ctrl, Alt, Shift)
abbrev pub modifiers : List (List ℕ × (Bool × Bool × Bool))
modifiers =
    (codes "-", (false, false, false))
    ∷ (codes "c", (true, false, false))
    ∷ (codes "a", (false, true, false))
    ∷ (codes "s", (false, false, true))
    ∷ (codes "ca", (true, true, false))
    ∷ (codes "cs", (true, false, true))
    ∷ (codes "as", (false, true, true))
    ∷ (codes "cas", (true, true, true))
    ∷ []

abbrev pub modifiers_named : List ℕ → Option (Bool × Bool × Bool)
modifiers_named = named modifiers

-- the keys without an argument, by their names
abbrev pub named_keys : List (List ℕ × Key)
named_keys =
    (codes "Backspace", key.Backspace)
    ∷ (codes "Enter", key.Enter)
    ∷ (codes "Left", key.Left)
    ∷ (codes "Right", key.Right)
    ∷ (codes "Up", key.Up)
    ∷ (codes "Down", key.Down)
    ∷ (codes "Tab", key.Tab)
    ∷ (codes "Delete", key.Delete)
    ∷ (codes "Home", key.Home)
    ∷ (codes "End", key.End)
    ∷ (codes "PageUp", key.PageUp)
    ∷ (codes "PageDown", key.PageDown)
    ∷ (codes "Esc", key.Esc)
    ∷ (codes "Copy", key.Copy)
    ∷ (codes "Cut", key.Cut)
    ∷ (codes "Paste", key.Paste)
    ∷ (codes "MouseScrollDown", key.MouseScrollDown)
    ∷ (codes "MouseScrollUp", key.MouseScrollUp)
    ∷ (codes "Null", key.Null)
    ∷ []

abbrev pub key_without_arguments : List ℕ → Option Key
key_without_arguments = named named_keys

-- the key of a character, or a function key by its number
abbrev pub key_with : List ℕ → List ℕ → Option Key
key_with name argument =
    if bytes_eq name (codes "Char") then option_map key.Char (character argument) else if bytes_eq name (codes "F") then option_map key.F (byte_number argument) else None

abbrev pub key_of : List ℕ → Option (List ℕ × List ℕ) → Option Key
key_of text None = key_without_arguments text
key_of text (Some p) = key_with p.0 p.1

-- the key that the text names; one space separates a key's name from its argument, if it has one
unfoldable pub key_named : List ℕ → Option Key
key_named text = key_of text (split_first text)

abbrev pub input_of : (Bool × Bool × Bool) × Key → Input
input_of p = record { key = p.1; ctrl = p.0.0; alt = p.0.1; shift = p.0.2 }

-- the input of modifier keys and a key, separated by one space
abbrev pub input_named : List ℕ → Option Input
input_named text = option_map input_of (both modifiers_named key_named text)
