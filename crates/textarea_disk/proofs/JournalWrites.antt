-- Lemmas on what writes of a journal give.
use Rattle.std.proofs.Common.{◌≡◌, ◌++◌, ◌∙◌, ℕ, zero, suc, Bool, true, false, if◌then◌else◌, List, [], ◌∷◌, take, refl, sym, ap, subst}
use Rattle.std.proofs.lemmas.List.{append-nil, append_assoc}
use Rattle.std.proofs.lemmas.Slice.Eq.{bytes_eq-Decides}
use Rattle.std.specs.List.{AllByRecursion}
use Rattle.std.specs.Str.{bytes_eq}
use Rattle.textarea_disk.proofs.JournalSteps.{journal_append}
use Rattle.textarea_disk.proofs.Recoveries.{at_a_pause, at_the_last}
use Rattle.textarea_disk.specs.Journal.{AreRead, IsSized, IsTorn, framed, journal_of}
use Rattle.textarea_disk.specs.JournalWrites.{AreRecordsOf, AreWrites, IsTextAtPause, first_payloads, last_text}
use Rattle.textarea_disk.specs.Recovery.{IsAtPause, IsOldOrSaved, IsOldOrSavedText, IsRecovered, header_of, text_after}
use Rattle.textarea_disk.specs.TextChange.{IsReadFor, with_change, text_with}
use Rattle.textarea_disk.specs.declared.text_change.Recovery.{Recovery}

-- ---- the payloads of writes

-- each payload changes the text before it to the next
abbrev pub AreChanges : List ℕ → List (List ℕ) → List (List ℕ) → Type 0
AreChanges text [] [] = Unit {0}
AreChanges text [] (next ∷ texts) = ⊥
AreChanges text (payload ∷ payloads) [] = ⊥
AreChanges text (payload ∷ payloads) (next ∷ texts) = (with_change text payload ≡ next) × AreChanges next payloads texts

pub record AreWritten (begun : Bool) (text : List ℕ) (texts : List (List ℕ)) (bytes : List ℕ) : Type 0 where
  pub payloads : List (List ℕ)
  pub sized : AllByRecursion IsSized payloads
  pub changes : AreChanges text payloads texts
  pub bytes_are : bytes ≡ journal_of (first_payloads begun text ++ payloads)

one_write : (begun : Bool) (text next : List ℕ) (texts : List (List ℕ)) (first later bytes : List ℕ) → bytes ≡ first ++ later → AreRecordsOf begun text next first →
    AreWritten true next texts later → AreWritten begun text (next ∷ texts) bytes
one_write begun text next texts first later bytes whole records after =
    let start = first_payloads begun text in
    record {
      payloads = records.payload ∷ after.payloads;
      sized = (records.sized, after.sized);
      changes = (records.leads, after.changes);
      bytes_are =
          whole ∙ ap (λ (b : List ℕ). b ++ later) records.bytes_are ∙ ap (λ (b : List ℕ). journal_of (start ++ records.payload ∷ []) ++ b) after.bytes_are
          ∙ sym (journal_append (start ++ records.payload ∷ []) after.payloads) ∙ ap journal_of (append_assoc start (records.payload ∷ []) after.payloads);
    }

are_written : (text : List ℕ) (texts : List (List ℕ)) (bytes : List ℕ) → AreWrites true text texts bytes → AreWritten true text texts bytes
are_written text [] bytes none = record { payloads = []; sized = tt; changes = tt; bytes_are = none }
are_written text (next ∷ texts) bytes writes =
    one_write true text next texts writes.0 writes.1 bytes writes.2 writes.3 (are_written next texts writes.1 writes.4)

first_written : (text next : List ℕ) (texts : List (List ℕ)) (bytes : List ℕ) → AreWrites false text (next ∷ texts) bytes → AreWritten false text (next ∷ texts) bytes
first_written text next texts bytes writes = one_write false text next texts writes.0 writes.1 bytes writes.2 writes.3 (are_written next texts writes.1 writes.4)

-- the records of the first write
pub first_records : (begun : Bool) (text next payload bytes : List ℕ) → begun ≡ false → IsSized payload → with_change text payload ≡ next → bytes ≡ framed (header_of text) ++ framed payload →
    AreRecordsOf begun text next bytes
first_records begun text next payload bytes none sized leads is =
    subst (λ (b : Bool). AreRecordsOf b text next bytes) (sym none)
    (record {
      payload = payload;
      sized = sized;
      leads = leads;
      bytes_are = is ∙ ap (λ (b : List ℕ). framed (header_of text) ++ b) (sym (append-nil (framed payload)));
    })

-- ---- the texts that they make

after_some : (text : List ℕ) (payloads texts : List (List ℕ)) (count : ℕ) → AreChanges text payloads texts → text_after with_change text (take count payloads) ≡ last_text text (take count texts)
after_some text [] [] zero changes = refl
after_some text [] [] (suc count) changes = refl
after_some text [] (next ∷ texts) count changes = absurd changes
after_some text (payload ∷ payloads) [] count changes = absurd changes
after_some text (payload ∷ payloads) (next ∷ texts) zero changes = refl
after_some text (payload ∷ payloads) (next ∷ texts) (suc count) changes =
    ap (λ (t : List ℕ). text_after with_change t (take count payloads)) changes.0 ∙ after_some next payloads texts count changes.1

after_all : (text : List ℕ) (payloads texts : List (List ℕ)) → AreChanges text payloads texts → text_after with_change text payloads ≡ last_text text texts
after_all text [] [] changes = refl
after_all text [] (next ∷ texts) changes = absurd changes
after_all text (payload ∷ payloads) [] changes = absurd changes
after_all text (payload ∷ payloads) (next ∷ texts) changes =
    ap (λ (t : List ℕ). text_after with_change t payloads) changes.0 ∙ after_all next payloads texts changes.1

-- ---- what is read

-- what a journal makes of a file is what is recovered
recovered_so : (bytes : List ℕ) (payloads : List (List ℕ)) (text : List ℕ) → text ≡ text_with bytes payloads → IsRecovered with_change bytes payloads text
recovered_so bytes [] text is = is
recovered_so bytes (header ∷ changes) text is = by_test (bytes_eq header (header_of bytes)) refl
  where
    same : Bool → List ℕ
    same test = if test then text_after with_change bytes changes else bytes

    by_test : (test : Bool) → bytes_eq header (header_of bytes) ≡ test → IsRecovered with_change bytes (header ∷ changes) text
    by_test true e = (λ h. is ∙ ap same e, λ other. absurd (other ((bytes_eq-Decides header (header_of bytes)).0 e)))
    by_test false e = (λ h. absurd (let true_too : bytes_eq header (header_of bytes) ≡ true = (bytes_eq-Decides header (header_of bytes)).1 h in cc), λ other. is ∙ ap same e)

old_or_saved : (old text bytes : List ℕ) (payloads : List (List ℕ)) → text_after with_change old payloads ≡ text → IsOldOrSavedText old text bytes → IsOldOrSaved with_change old payloads bytes
old_or_saved old text bytes payloads same left = subst (λ (t : List ℕ). IsOldOrSavedText old t bytes) (sym same) left

to_pause : (old : List ℕ) (payloads texts : List (List ℕ)) (text : List ℕ) → AreChanges old payloads texts → IsAtPause with_change old payloads text → IsTextAtPause old texts text
to_pause old payloads texts text changes at = (at.0, at.1 ∙ after_some old payloads texts at.0 changes)

pub read_at_a_pause : (old next : List ℕ) (texts : List (List ℕ)) (written left bytes : List ℕ) (found : Recovery) → AreWrites false old (next ∷ texts) written → IsTorn written left →
    IsOldOrSavedText old (last_text next texts) bytes → IsReadFor bytes left found → IsTextAtPause old (next ∷ texts) found.text.items
read_at_a_pause old next texts written left bytes found writes torn kept read =
    let made = first_written old next texts written writes in
    to_pause old made.payloads (next ∷ texts) found.text.items made.changes
    (at_a_pause with_change old made.payloads read.payloads left bytes found.text.items made.sized (subst (λ (w : List ℕ). IsTorn w left) made.bytes_are torn) read.read
    (old_or_saved old (last_text next texts) bytes made.payloads (after_all old made.payloads (next ∷ texts) made.changes) kept)
    (recovered_so bytes read.payloads found.text.items read.text_is))

pub read_at_the_last : (old next : List ℕ) (texts : List (List ℕ)) (written bytes : List ℕ) (found : Recovery) → AreWrites false old (next ∷ texts) written →
    IsOldOrSavedText old (last_text next texts) bytes → IsReadFor bytes written found → found.text.items ≡ last_text next texts
read_at_the_last old next texts written bytes found writes kept read =
    let made = first_written old next texts written writes in
    at_the_last with_change old made.payloads read.payloads bytes found.text.items made.sized (subst (λ (w : List ℕ). AreRead read.payloads w) made.bytes_are read.read)
    (old_or_saved old (last_text next texts) bytes made.payloads (after_all old made.payloads (next ∷ texts) made.changes) kept)
    (recovered_so bytes read.payloads found.text.items read.text_is)
    ∙ after_all old made.payloads (next ∷ texts) made.changes
