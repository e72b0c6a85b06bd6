-- Lemmas on what is recovered.
use Rattle.std.proofs.Common.{◌≡◌, ◌≢◌, ◌⊎◌, ◌∙◌, ℕ, zero, suc, Bool, List, ◌∷◌, length, take, true, false, inl, inr, refl, sym, ap, subst, arith}
use Rattle.std.proofs.lemmas.List.{length-append, take_all}
use Rattle.std.proofs.lemmas.Slice.Eq.{bytes_eq-Decides}
use Rattle.std.specs.Int.{w64, to_le_bytes}
use Rattle.std.specs.List.{AllByRecursion}
use Rattle.std.specs.Str.{bytes_eq}
use Rattle.textarea_disk.proofs.Journals.{torn_read, whole_read}
use Rattle.textarea_disk.specs.Journal.{AreRead, IsSized, IsTorn, hash_of, journal_of}
use Rattle.textarea_disk.specs.Recovery.{IsAtPause, IsOldOrSaved, IsRecovered, header_of, text_after}

at_last : (change : List ℕ → List ℕ → List ℕ) (old : List ℕ) (written : List (List ℕ)) (text : List ℕ) → text ≡ text_after change old written → IsAtPause change old written text
at_last change old written text same =
    (length written, same ∙ ap (text_after change old) (sym (take_all (length written) written (omega arith))))

-- the two headers are the same or not
same_or_not : (a b : List ℕ) → (a ≡ b) ⊎ (a ≢ b)
same_or_not a b = by_test (bytes_eq a b) refl
  where
    by_test : (test : Bool) → bytes_eq a b ≡ test → (a ≡ b) ⊎ (a ≢ b)
    by_test true is = inl ((bytes_eq-Decides a b).0 is)
    by_test false is = inr (λ same. let true_too : bytes_eq a b ≡ true = (bytes_eq-Decides a b).1 same in cc)

-- the file is the old one
from_old : (change : List ℕ → List ℕ → List ℕ) (old : List ℕ) (payloads : List (List ℕ)) (bytes text : List ℕ) → bytes ≡ old → IsRecovered change bytes (header_of old ∷ payloads) text → text ≡ text_after change old payloads
from_old change old payloads bytes text same recovered =
    recovered.0 (ap header_of (sym same)) ∙ ap (λ (x : List ℕ). text_after change x payloads) same

-- the journal has a header
with_header : (change : List ℕ → List ℕ → List ℕ) (old : List ℕ) (written payloads : List (List ℕ)) (bytes text : List ℕ) → IsOldOrSaved change old written bytes →
    IsRecovered change bytes (header_of old ∷ payloads) text → (text ≡ text_after change old payloads) ⊎ (text ≡ text_after change old written)
with_header change old written payloads bytes text left recovered =
    elim (same_or_not (header_of old) (header_of bytes)) [
      | inl same ↦ inl (from_old change old payloads bytes text (left.told_apart same) recovered)
      | inr other ↦ elim left.either [
        | inl same ↦ inl (from_old change old payloads bytes text same recovered)
        | inr saved ↦ inr (recovered.1 other ∙ saved)
      ]
    ]

from_first : (change : List ℕ → List ℕ → List ℕ) (old : List ℕ) (written : List (List ℕ)) (count : ℕ) (bytes text : List ℕ) → IsOldOrSaved change old written bytes →
    IsRecovered change bytes (take count (header_of old ∷ written)) text → IsAtPause change old written text
from_first change old written zero bytes text left recovered =
    elim left.either [
      | inl same ↦ (0, recovered ∙ same)
      | inr saved ↦ at_last change old written text (recovered ∙ saved)
    ]
from_first change old written (suc count) bytes text left recovered =
    elim (with_header change old written (take count written) bytes text left recovered) [
      | inl same ↦ (count, same)
      | inr saved ↦ at_last change old written text saved
    ]

from_all : (change : List ℕ → List ℕ → List ℕ) (old : List ℕ) (written : List (List ℕ)) (bytes text : List ℕ) → IsOldOrSaved change old written bytes →
    IsRecovered change bytes (header_of old ∷ written) text → text ≡ text_after change old written
from_all change old written bytes text left recovered =
    elim (with_header change old written written bytes text left recovered) [ inl same ↦ same | inr saved ↦ saved ]

header_sized : (bytes : List ℕ) → IsSized (header_of bytes)
header_sized bytes =
    let sixteen : length (header_of bytes) ≡ 16 = length-append (to_le_bytes w64 (length bytes)) (to_le_bytes w64 (hash_of bytes)) in
    omega arith

pub at_a_pause : (change : List ℕ → List ℕ → List ℕ) (old : List ℕ) (written payloads : List (List ℕ)) (left bytes text : List ℕ) → AllByRecursion IsSized written →
    IsTorn (journal_of (header_of old ∷ written)) left → AreRead payloads left → IsOldOrSaved change old written bytes → IsRecovered change bytes payloads text → IsAtPause change old written text
at_a_pause change old written payloads left bytes text sized torn read old_or_saved recovered =
    let first : (count : ℕ) × (payloads ≡ take count (header_of old ∷ written)) =
    torn_read (header_of old ∷ written) payloads torn.count torn.zeroes (header_sized old, sized) (subst (AreRead payloads) torn.same read) in
    from_first change old written first.0 bytes text old_or_saved (subst (λ (p : List (List ℕ)). IsRecovered change bytes p text) first.1 recovered)

pub at_the_last : (change : List ℕ → List ℕ → List ℕ) (old : List ℕ) (written payloads : List (List ℕ)) (bytes text : List ℕ) → AllByRecursion IsSized written →
    AreRead payloads (journal_of (header_of old ∷ written)) → IsOldOrSaved change old written bytes → IsRecovered change bytes payloads text → text ≡ text_after change old written
at_the_last change old written payloads bytes text sized read old_or_saved recovered =
    from_all change old written bytes text old_or_saved
    (subst (λ (p : List (List ℕ)). IsRecovered change bytes p text) (whole_read (header_of old ∷ written) payloads (header_sized old, sized) read) recovered)
