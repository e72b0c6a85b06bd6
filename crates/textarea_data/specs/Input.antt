-- Inputs of one key.
use Rattle.std.specs.Prelude.{false}
use Rattle.textarea_data.specs.declared.input.Input.{Input}
use Rattle.textarea_data.specs.declared.input.Key.{Key}

-- the input of a key without modifiers
abbrev pub input_of_key : Key → Input
input_of_key key = record { key = key; ctrl = false; alt = false; shift = false }
