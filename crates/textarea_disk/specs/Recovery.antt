-- What is offered at the next opening of a file: its text with the changes of its journal.
use Rattle.std.specs.Prelude.{◌≡◌, ◌≢◌, ◌⊎◌, ◌++◌, ℕ, List, [], ◌∷◌, length, take}
use Rattle.std.specs.Int.{w64, to_le_bytes}
use Rattle.textarea_disk.specs.Journal.{hash_of}

-- a file's size and hash, each in eight bytes with the low one first
abbrev pub header_bytes : ℕ → ℕ → List ℕ
header_bytes size hash = to_le_bytes w64 size ++ to_le_bytes w64 hash

-- the payload of the first record of a journal, for a file with these bytes
abbrev pub header_of : List ℕ → List ℕ
header_of bytes = header_bytes (length bytes) (hash_of bytes)

-- the text after records, each of which changes it in this way
abbrev pub text_after : (List ℕ → List ℕ → List ℕ) → List ℕ → List (List ℕ) → List ℕ
text_after change text [] = text
text_after change text (payload ∷ payloads) = text_after change (change text payload) payloads

-- The text of a file and of what is read of its journal: with the changes after the header, if that is of this file.
abbrev pub IsRecovered : (List ℕ → List ℕ → List ℕ) → List ℕ → List (List ℕ) → List ℕ → Type 0
IsRecovered change bytes [] text = text ≡ bytes
IsRecovered change bytes (header ∷ payloads) text =
    (header ≡ header_of bytes → text ≡ text_after change bytes payloads) × (header ≢ header_of bytes → text ≡ bytes)

-- A file that a crash may leave while its journal is written, and while its text is saved: the old one, or a new one with the text,
-- whose size and hash are others if its bytes are.
pub record IsOldOrSavedText (old text bytes : List ℕ) : Type 0 where
  pub either : (bytes ≡ old) ⊎ (bytes ≡ text)
  pub told_apart : header_of old ≡ header_of bytes → bytes ≡ old

-- the same with the text after all changes
abbrev pub IsOldOrSaved : (List ℕ → List ℕ → List ℕ) → List ℕ → List (List ℕ) → List ℕ → Type 0
IsOldOrSaved change old payloads bytes = IsOldOrSavedText old (text_after change old payloads) bytes

-- the text as it was at one of the pauses, at which a record each was written
abbrev pub IsAtPause : (List ℕ → List ℕ → List ℕ) → List ℕ → List (List ℕ) → List ℕ → Type 0
IsAtPause change old payloads text = (pause : ℕ) × (text ≡ text_after change old (take pause payloads))
