-- A journal: records in the bytes of a file, which a crash may cut off.
use Rattle.std.specs.Prelude.{◌≡◌, ◌≢◌, ◌++◌, ◌<◌, ◌^◌, ℕ, List, [], ◌∷◌, length, take, replicate}
use Rattle.std.specs.Int.{w64, to_le_bytes}
use Rattle.textarea_disk.specs.ContentHash.{hash_from}

-- the hash of bytes, from that of none
abbrev pub hash_of : List ℕ → ℕ
hash_of bytes = hash_from 0xcbf2_9ce4_8422_2325 bytes

-- A record: the length of its payload and its hash, each in eight bytes with the low one first, the payload, and a byte 1. So a
-- record that is cut off is too short, and one whose end became zeroes ends in no 1: neither needs the hash.
abbrev pub framed : List ℕ → List ℕ
framed payload = to_le_bytes w64 (length payload) ++ to_le_bytes w64 (hash_of payload) ++ payload ++ 1 ∷ []

-- the bytes of a journal with these payloads
abbrev pub journal_of : List (List ℕ) → List ℕ
journal_of [] = []
journal_of (payload ∷ payloads) = framed payload ++ journal_of payloads

abbrev pub IsSized : List ℕ → Type 0
IsSized payload = length payload < 2 ^ 64

-- the bytes begin with a record, and these come after it
pub record BeginsWithRecord (payload after bytes : List ℕ) : Type 0 where
  pub sized : IsSized payload
  pub same : bytes ≡ framed payload ++ after

pub record HasNoRecord (bytes : List ℕ) : Type 0 where
  pub none : (payload after : List ℕ) → IsSized payload → bytes ≢ framed payload ++ after

-- bytes are read as these payloads: they begin with their records, one after another, and then with none
abbrev pub AreRead : List (List ℕ) → List ℕ → Type 0
AreRead [] bytes = HasNoRecord bytes
AreRead (payload ∷ payloads) bytes = (after : List ℕ) × BeginsWithRecord payload after bytes × AreRead payloads after

-- What a crash may leave of bytes that were written after the last sync: as many of them as it likes, and zeroes.
pub record IsTorn (written left : List ℕ) : Type 0 where
  pub count : ℕ
  pub zeroes : ℕ
  pub same : left ≡ take count written ++ replicate zeroes 0
