-- A change of a text, as the payload of a record, and what a journal makes of a file.
use Rattle.std.specs.Prelude.{◌≡◌, ◌++◌, ◌-◌, ◌^◌, ℕ, Bool, false, List, [], ◌∷◌, drop, if◌then◌else◌, length, min, nat_lt, take}
use Rattle.std.specs.Int.{w64, from_le_bytes, to_le_bytes}
use Rattle.std.specs.Str.{bytes_eq}
use Rattle.textarea_disk.specs.Journal.{AreRead, journal_of}
use Rattle.textarea_disk.specs.Recovery.{header_of, text_after}
use Rattle.textarea_disk.specs.declared.text_change.Recovery.{Recovery}

-- how many first bytes of the text stay, and how many last ones, each in eight bytes with the low one first, and the bytes between them
abbrev pub change_bytes : ℕ → ℕ → List ℕ → List ℕ
change_bytes first last middle = to_le_bytes w64 first ++ to_le_bytes w64 last ++ middle

abbrev pub put_between : ℕ → ℕ → List ℕ → List ℕ → List ℕ
put_between first last middle text = take first text ++ middle ++ drop (length text - last) text

-- the text after the change of a payload; one that is too short changes nothing
abbrev pub with_change : List ℕ → List ℕ → List ℕ
with_change text payload =
    if nat_lt (length payload) 16 then text
    else put_between (from_le_bytes w64 (take 8 payload)) (from_le_bytes w64 (take 8 (drop 8 payload))) (drop 16 payload) text

-- the first payload is the header of a journal of a file with these bytes
abbrev pub is_of : List ℕ → List (List ℕ) → Bool
is_of bytes [] = false
is_of bytes (header ∷ changes) = bytes_eq header (header_of bytes)

-- the text of a file's bytes, with the changes after the header of a journal if that is of this file
abbrev pub text_with : List ℕ → List (List ℕ) → List ℕ
text_with bytes [] = bytes
text_with bytes (header ∷ changes) = if bytes_eq header (header_of bytes) then text_after with_change bytes changes else bytes

-- what is read of a journal, and what it makes of a file's bytes
pub record IsReadFor (bytes journal : List ℕ) (found : Recovery) : Type 0 where
  pub payloads : List (List ℕ)
  pub read : AreRead payloads journal
  pub text_is : found.text.items ≡ text_with bytes payloads
  pub file_is : found.is_of_file ≡ is_of bytes payloads
  pub size_is : found.size ≡ min (length (journal_of payloads)) (2 ^ 64 - 1)
