-- What a program writes to a journal from one pause to the next, and what is read back of that.
use Rattle.std.specs.Prelude.{◌≡◌, ◌++◌, ℕ, Bool, true, false, not, List, [], ◌∷◌, take}
use Rattle.textarea_disk.specs.Journal.{IsSized, journal_of}
use Rattle.textarea_disk.specs.JournalSteps.{writing_steps}
use Rattle.textarea_disk.specs.Recovery.{header_of}
use Rattle.textarea_disk.specs.TextChange.{with_change}
use Rattle.textarea_disk.specs.declared.journal_write.JournalWrite.{JournalWrite}

-- the payloads before that of the change in a write: in the first one the header
abbrev pub first_payloads : Bool → List ℕ → List (List ℕ)
first_payloads true text = []
first_payloads false text = header_of text ∷ []

-- these bytes bring a journal, which is on the disk already or not, from one text to another
pub record AreRecordsOf (begun : Bool) (text next bytes : List ℕ) : Type 0 where
  pub payload : List ℕ
  pub sized : IsSized payload
  pub leads : with_change text payload ≡ next
  pub bytes_are : bytes ≡ journal_of (first_payloads begun text ++ payload ∷ [])

pub record IsWriteOf (begun : Bool) (text next : List ℕ) (write : JournalWrite) : Type 0 where
  pub steps_are : write.steps.now ≡ writing_steps (not begun)
  pub records : AreRecordsOf begun text next write.bytes.items

-- these bytes, written one write after another, bring a journal from a text over those at the pauses
abbrev pub AreWrites : Bool → List ℕ → List (List ℕ) → List ℕ → Type 0
AreWrites begun text [] bytes = bytes ≡ []
AreWrites begun text (next ∷ texts) bytes =
    (first later : List ℕ) × (bytes ≡ first ++ later) × AreRecordsOf begun text next first × AreWrites true next texts later

-- the last of these texts, each of a pause, or the one before them
abbrev pub last_text : List ℕ → List (List ℕ) → List ℕ
last_text text [] = text
last_text text (next ∷ texts) = last_text next texts

-- the text at one of the pauses, or before them
abbrev pub IsTextAtPause : List ℕ → List (List ℕ) → List ℕ → Type 0
IsTextAtPause old texts text = (pause : ℕ) × (text ≡ last_text old (take pause texts))
