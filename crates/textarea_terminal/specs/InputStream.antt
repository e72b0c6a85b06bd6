-- What is in bytes, one after another, and the bytes of what is incomplete after them.
use Rattle.std.specs.Prelude.{◌≡◌, ◌<◌, ℕ, zero, suc, Bool, true, false, List, [], ◌∷◌, ◌++◌, ◌==◌, ◌||◌, length, map, option_map, Option, Some, None, if◌then◌else◌}
use Rattle.textarea_data.specs.declared.input.Input.{Input}
use Rattle.textarea_data.specs.declared.input.Key.TheVariants as key
use Rattle.textarea_terminal.specs.declared.input.event.Event.{Event}
use Rattle.textarea_terminal.specs.InputEvent.{EventValue, input, paste, value_of, unit_value}
use Rattle.textarea_data.specs.Input.{input_of_key}
use Rattle.textarea_terminal.specs.InputKey.{with_alt}
use Rattle.textarea_terminal.specs.declared.input.unit.Found.{Found}
use Rattle.textarea_terminal.specs.declared.input.unit.Found.TheVariants as found
use Rattle.textarea_terminal.specs.InputUnit.{unit_at, begins_string}

-- what was found, as a value
abbrev pub found_value : Found → EventValue
found_value (found.Paste text) = paste text.now
found_value (found.Unit u) = unit_value u

-- values, and the rest of the bytes
abbrev pub Decoding : Type 0
Decoding = List EventValue × List ℕ

abbrev pub with_event : EventValue → Decoding → Decoding
with_event value decoding = (value ∷ decoding.0, decoding.1)

-- the values at the front of the bytes, at most a limit
unfoldable pub decoding_within : ℕ → List ℕ → Decoding
decoding_within zero bytes = ([], bytes)
decoding_within (suc most) bytes = elim (unit_at bytes) [ None ↦ ([], bytes) | Some x ↦ with_event x.0 (decoding_within most x.1) ]

-- all values, since each takes at least one byte
unfoldable pub decoding : List ℕ → Decoding
decoding bytes = decoding_within (length bytes) bytes

abbrev pub values_in : List ℕ → List EventValue
values_in bytes = (decoding bytes).0

-- the bytes of what is incomplete
abbrev pub begun_bytes : List ℕ → List ℕ
begun_bytes bytes = (decoding bytes).1

-- the bytes end in these
pub record EndsIn (bytes rest : List ℕ) : Type 0 where
  pub front : List ℕ
  pub whole : bytes ≡ front ++ rest

-- a value takes at least one byte from the front, and is the same if more bytes come after the rest
pub record Takes (bytes : List ℕ) (x : EventValue × List ℕ) : Type 0 where
  pub front : List ℕ
  pub some : 0 < length front
  pub whole : bytes ≡ front ++ x.1
  pub same : (more : List ℕ) → unit_at (bytes ++ more) ≡ Some (x.0, x.1 ++ more)

-- the new events are the old ones, and then these
pub record Adds (old new : List Event) (values : List EventValue) : Type 0 where
  pub added : List Event
  pub whole : new ≡ old ++ added
  pub values_are : map value_of added ≡ values

-- the new events are the old ones and then some, which with those to come are all
pub record AddsUpTo (old new : List Event) (to_come all : List EventValue) : Type 0 where
  pub added : List Event
  pub whole : new ≡ old ++ added
  pub values_are : map value_of added ++ to_come ≡ all

-- ---- when no more bytes arrive for now

-- the key that an incomplete sequence is, by the bytes after its ESC
unfoldable pub leading_key : List ℕ → Option Input
leading_key [] = Some (input_of_key key.Esc)
leading_key (b ∷ []) = if b == 91 || b == 79 || begins_string b then Some (with_alt (input_of_key (key.Char b))) else None
leading_key (b ∷ c ∷ bytes) = None

-- the same after one more ESC, which is the key Esc
unfoldable pub keys_after_escape : List ℕ → Option (Bool × Input)
keys_after_escape [] = Some (false, input_of_key key.Esc)
keys_after_escape (b ∷ bytes) =
    if b == 27 then option_map (λ i. (true, i)) (leading_key bytes) else option_map (λ i. (false, i)) (leading_key (b ∷ bytes))

-- The keys that an incomplete sequence is: whether Esc is first, and the key after it. A longer sequence stays pending.
unfoldable pub idle_keys : List ℕ → Option (Bool × Input)
idle_keys [] = None
idle_keys (b ∷ bytes) = if b == 27 then keys_after_escape bytes else None

abbrev pub values_of_keys : Bool → Input → List EventValue
values_of_keys true i = input (input_of_key key.Esc) ∷ input i ∷ []
values_of_keys false i = input i ∷ []

-- the events of pending bytes, and the bytes that stay pending
abbrev pub idle_of : List ℕ → Option (Bool × Input) → Decoding
idle_of bytes None = ([], bytes)
idle_of bytes (Some keys) = (values_of_keys keys.0 keys.1, [])

unfoldable pub idle_decoding : List ℕ → Decoding
idle_decoding bytes = idle_of bytes (idle_keys bytes)
