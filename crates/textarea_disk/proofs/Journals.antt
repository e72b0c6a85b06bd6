-- Lemmas on journals.
use Rattle.std.proofs.Common.{◌≡◌, ◌≢◌, ◌++◌, ◌<◌, ◌≤◌, ◌+◌, ◌-◌, ◌*◌, ◌%◌, ◌^◌, ◌∙◌, ℕ, zero, suc, List, [], ◌∷◌, length, take, drop, get_or, replicate, inl, inr, refl, sym, ap, subst, arith, lit<}
use Rattle.std.proofs.lemmas.Bool.{cases_lt}
use Rattle.std.proofs.lemmas.List.{append-nil, append_assoc, drop_at, get_or_at, length-append, length-take-le, take-append-le, take-take, take_all, take_at}
use Rattle.std.proofs.lemmas.Nat.{from_le_bytes-to_le_bytes_8}
use Rattle.std.proofs.Math.Seq.{take-append-add}
use Rattle.std.specs.Prelude.{bit_xor}
use Rattle.std.specs.Int.{w64, to_le_bytes, from_le_bytes}
use Rattle.std.specs.List.{AllByRecursion}
use Rattle.textarea_disk.specs.ContentHash.{hash_from}
use Rattle.textarea_disk.specs.Journal.{BeginsWithRecord, HasNoRecord, AreRead, IsSized, IsTorn, framed, hash_of, journal_of}

-- ---- numbers in eight bytes

pub eight : (n : ℕ) → length (to_le_bytes w64 n) ≡ 8
eight n = refl

pub same_number : (m n : ℕ) → m < 2 ^ 64 → n < 2 ^ 64 → to_le_bytes w64 m ≡ to_le_bytes w64 n → m ≡ n
same_number m n hm hn e = sym (from_le_bytes-to_le_bytes_8 m hm) ∙ ap (from_le_bytes w64) e ∙ from_le_bytes-to_le_bytes_8 n hn

-- ---- the parts of a record

abbrev pub head_of : List ℕ → List ℕ
head_of payload = to_le_bytes w64 (length payload) ++ to_le_bytes w64 (hash_of payload)

pub head_length : (payload : List ℕ) → length (head_of payload) ≡ 16
head_length payload = length-append (to_le_bytes w64 (length payload)) (to_le_bytes w64 (hash_of payload))

-- a record, and what comes after it
pub after_record : (payload after : List ℕ) → framed payload ++ after ≡ head_of payload ++ (payload ++ 1 ∷ after)
after_record payload after =
    append_assoc (head_of payload ++ payload) (1 ∷ []) after ∙ append_assoc (head_of payload) payload (1 ∷ after)

pub record_length : (payload : List ℕ) → length (framed payload) ≡ 17 + length payload
record_length payload =
    omega (arith, ap length (sym (append-nil (framed payload)) ∙ after_record payload []), length-append (head_of payload) (payload ++ 1 ∷ []), length-append payload (1 ∷ []), head_length payload)

pub first_eight : (payload after : List ℕ) → take 8 (framed payload ++ after) ≡ to_le_bytes w64 (length payload)
first_eight payload after =
    let size = to_le_bytes w64 (length payload) in
    let hash = to_le_bytes w64 (hash_of payload) in
    ap (take 8) (after_record payload after ∙ append_assoc size hash (payload ++ 1 ∷ after)) ∙ take_at size (hash ++ (payload ++ 1 ∷ after)) 8 (eight (length payload))

pub body_of : (payload after : List ℕ) → drop 16 (framed payload ++ after) ≡ payload ++ 1 ∷ after
body_of payload after = ap (drop 16) (after_record payload after) ∙ drop_at (head_of payload) (payload ++ 1 ∷ after) 16 (head_length payload)

pub last_byte : (payload after : List ℕ) → get_or (framed payload ++ after) (16 + length payload) 0 ≡ 1
last_byte payload after =
    ap (λ (x : List ℕ). get_or x (16 + length payload) 0) (after_record payload after ∙ sym (append_assoc (head_of payload) payload (1 ∷ after)))
    ∙ get_or_at (head_of payload ++ payload) 1 after 0 (16 + length payload) (omega (arith, length-append (head_of payload) payload, head_length payload))

some_tail : (a b : List ℕ) → 1 ∷ a ≡ 1 ∷ b → a ≡ b
some_tail a b e = cc

-- bytes begin with one record at most
pub same_record : (a b c d : List ℕ) → IsSized a → IsSized b → framed a ++ c ≡ framed b ++ d → (a ≡ b) × (c ≡ d)
same_record a b c d sa sb e =
    let heads : to_le_bytes w64 (length a) ≡ to_le_bytes w64 (length b) = sym (first_eight a c) ∙ ap (take 8) e ∙ first_eight b d in
    let sizes : length a ≡ length b = same_number (length a) (length b) sa sb heads in
    let bodies : a ++ 1 ∷ c ≡ b ++ 1 ∷ d = sym (body_of a c) ∙ ap (drop 16) e ∙ body_of b d in (
      sym (take_at a (1 ∷ c) (length a) refl) ∙ ap (take (length a)) bodies ∙ take_at b (1 ∷ d) (length a) (sym sizes),
      some_tail c d (sym (drop_at a (1 ∷ c) (length a) refl) ∙ ap (drop (length a)) bodies ∙ drop_at b (1 ∷ d) (length a) (sym sizes)),
    )

-- ---- zeroes

zeroes_at : (k i : ℕ) → get_or {A = ℕ} (replicate k 0) i 0 ≡ 0
zeroes_at zero i = refl
zeroes_at (suc k) zero = refl
zeroes_at (suc k) (suc i) = zeroes_at k i

-- past the cut there are zeroes
torn_at : (bytes : List ℕ) (n k i : ℕ) → n ≤ i → get_or (take n bytes ++ replicate k 0) i 0 ≡ 0
torn_at bytes zero k i h = zeroes_at k i
torn_at [] (suc n) k i h = zeroes_at k i
torn_at (byte ∷ bytes) (suc n) k zero h = absurd (omega arith)
torn_at (byte ∷ bytes) (suc n) k (suc i) h = torn_at bytes n k i (omega arith)

torn_head : (bytes : List ℕ) (n k : ℕ) → 8 ≤ n → n ≤ length bytes → take 8 (take n bytes ++ replicate k 0) ≡ take 8 bytes
torn_head bytes n k h l =
    take-append-le 8 (take n bytes) (replicate k 0) (omega (arith, length-take-le n bytes l)) ∙ take-take 8 n bytes h

-- a record that is cut off isn't one
torn_record : (a b after rest : List ℕ) (n k : ℕ) → IsSized a → IsSized b → n < 17 + length a → take n (framed a ++ rest) ++ replicate k 0 ≡ framed b ++ after → ⊥
torn_record a b after rest n k sa sb short e = elim (cases_lt (16 + length b) n) [ inl h ↦ longer h | inr h ↦ shorter h ]
  where
    shorter : n ≤ 16 + length b → ⊥
    shorter h =
        let one : get_or (take n (framed a ++ rest) ++ replicate k 0) (16 + length b) 0 ≡ 1 = ap (λ (x : List ℕ). get_or x (16 + length b) 0) e ∙ last_byte b after in
        let none : get_or (take n (framed a ++ rest) ++ replicate k 0) (16 + length b) 0 ≡ 0 = torn_at (framed a ++ rest) n k (16 + length b) h in
        omega arith

    longer : 16 + length b < n → ⊥
    longer h =
        let within : n ≤ length (framed a ++ rest) = omega (arith, length-append (framed a) rest, record_length a) in
        let heads : to_le_bytes w64 (length a) ≡ to_le_bytes w64 (length b) =
        sym (first_eight a rest) ∙ sym (torn_head (framed a ++ rest) n k (omega arith) within) ∙ ap (take 8) e ∙ first_eight b after in
        let sizes : length a ≡ length b = same_number (length a) (length b) sa sb heads in
        omega arith

-- after a cut behind a record the record is whole
whole_record : (a rest : List ℕ) (n k : ℕ) → 17 + length a ≤ n → take n (framed a ++ rest) ++ replicate k 0 ≡ framed a ++ (take (n - (17 + length a)) rest ++ replicate k 0)
whole_record a rest n k h =
    let parts : n ≡ length (framed a) + (n - (17 + length a)) = omega (arith, record_length a) in
    ap (λ (m : ℕ). take m (framed a ++ rest) ++ replicate k 0) parts
    ∙ ap (λ (x : List ℕ). x ++ replicate k 0) (take-append-add (framed a) rest (n - (17 + length a)))
    ∙ append_assoc (framed a) (take (n - (17 + length a)) rest) (replicate k 0)

-- ---- reading

-- the payloads that are read are the first of those that were written
abbrev pub AreFirst : List (List ℕ) → List (List ℕ) → Type 0
AreFirst payloads written = (count : ℕ) × (payloads ≡ take count written)

one_more : (payload other : List ℕ) (payloads written : List (List ℕ)) → payload ≡ other → AreFirst payloads written → AreFirst (payload ∷ payloads) (other ∷ written)
one_more payload other payloads written same first =
    (suc first.0, ap (λ (x : List ℕ). x ∷ payloads) same ∙ ap (λ (x : List (List ℕ)). other ∷ x) first.1)

-- zeroes are no record
zeroes_only : (payload after : List ℕ) (n k : ℕ) → take n [] ++ replicate k 0 ≡ framed payload ++ after → ⊥
zeroes_only payload after n k e =
    let none : get_or {A = ℕ} (take n [] ++ replicate k 0) (16 + length payload) 0 ≡ 0 =
    ap (λ (x : List ℕ). get_or {A = ℕ} (x ++ replicate k 0) (16 + length payload) 0) (take_all {A = ℕ} n [] (omega arith)) ∙ zeroes_at k (16 + length payload) in
    let one : get_or {A = ℕ} (take n [] ++ replicate k 0) (16 + length payload) 0 ≡ 1 = ap (λ (x : List ℕ). get_or x (16 + length payload) 0) e ∙ last_byte payload after in
    omega arith

pub torn_read : (written payloads : List (List ℕ)) (n k : ℕ) → AllByRecursion IsSized written → AreRead payloads (take n (journal_of written) ++ replicate k 0) → AreFirst payloads written
torn_read written [] n k sized read = (0, refl)
torn_read [] (payload ∷ payloads) n k sized read = absurd (zeroes_only payload read.0 n k read.1.same)
torn_read (other ∷ written) (payload ∷ payloads) n k sized read =
    elim (cases_lt n (17 + length other)) [
      | inl h ↦ absurd (torn_record other payload read.0 (journal_of written) n k sized.0 read.1.sized h read.1.same)
      | inr h ↦
          let left = take (n - (17 + length other)) (journal_of written) ++ replicate k 0 in
          let same : (other ≡ payload) × (left ≡ read.0) =
          same_record other payload left read.0 sized.0 read.1.sized (sym (whole_record other (journal_of written) n k h) ∙ read.1.same) in
          one_more payload other payloads written (sym same.0)
          (torn_read written payloads (n - (17 + length other)) k sized.1 (subst (AreRead payloads) (sym same.1) read.2))
    ]

-- the payloads that are read are all of these, and the first of those
abbrev pub AreAllAndFirst : List (List ℕ) → List (List ℕ) → List (List ℕ) → Type 0
AreAllAndFirst payloads stored written = (count : ℕ) × (payloads ≡ stored ++ take count written)

all_more : (payload other : List ℕ) (payloads stored written : List (List ℕ)) → payload ≡ other → AreAllAndFirst payloads stored written → AreAllAndFirst (payload ∷ payloads) (other ∷ stored) written
all_more payload other payloads stored written same first =
    (first.0, ap (λ (x : List ℕ). x ∷ payloads) same ∙ ap (λ (x : List (List ℕ)). other ∷ x) first.1)

pub stored_read : (stored written payloads : List (List ℕ)) (left : List ℕ) → AllByRecursion IsSized stored → AllByRecursion IsSized written →
    IsTorn (journal_of written) left → AreRead payloads (journal_of stored ++ left) → AreAllAndFirst payloads stored written
stored_read [] written payloads left sized others torn read =
    torn_read written payloads torn.count torn.zeroes others (subst (AreRead payloads) torn.same read)
stored_read (other ∷ stored) written [] left sized others torn read =
    absurd (read.none other (journal_of stored ++ left) sized.0 (append_assoc (framed other) (journal_of stored) left))
stored_read (other ∷ stored) written (payload ∷ payloads) left sized others torn read =
    let same : (other ≡ payload) × (journal_of stored ++ left ≡ read.0) =
    same_record other payload (journal_of stored ++ left) read.0 sized.0 read.1.sized (sym (append_assoc (framed other) (journal_of stored) left) ∙ read.1.same) in
    all_more payload other payloads stored written (sym same.0)
    (stored_read stored written payloads left sized.1 others torn (subst (AreRead payloads) (sym same.1) read.2))

no_more : (count : ℕ) → ◌≡◌ {A = List (List ℕ)} (take count []) []
no_more count = take_all count [] (omega arith)

pub whole_read : (stored payloads : List (List ℕ)) → AllByRecursion IsSized stored → AreRead payloads (journal_of stored) → payloads ≡ stored
whole_read stored payloads sized read =
    let torn : IsTorn (journal_of []) [] = record { count = 0; zeroes = 0; same = refl } in
    let first = stored_read stored [] payloads [] sized tt torn (subst (AreRead payloads) (sym (append-nil (journal_of stored))) read) in
    first.1 ∙ ap (λ (x : List (List ℕ)). stored ++ x) (no_more first.0) ∙ append-nil stored

-- ---- what the code computes

-- a hash has 64 bits
hash_fits : (hash : ℕ) (bytes : List ℕ) → hash < 2 ^ 64 → hash_from hash bytes < 2 ^ 64
hash_fits hash [] h = h
hash_fits hash (byte ∷ bytes) h = hash_fits ((bit_xor hash byte * 1099511628211) % 2 ^ 64) bytes (mod_fits (bit_xor hash byte * 1099511628211))
  where
    mod_fits : (n : ℕ) → n % 2 ^ 64 < 2 ^ 64
    mod_fits n = omega arith

second_eight : (payload after : List ℕ) → take 8 (drop 8 (framed payload ++ after)) ≡ to_le_bytes w64 (hash_of payload)
second_eight payload after =
    let size = to_le_bytes w64 (length payload) in
    let hash = to_le_bytes w64 (hash_of payload) in
    let rest = payload ++ 1 ∷ after in
    ap (λ (x : List ℕ). take 8 (drop 8 x)) (after_record payload after ∙ append_assoc size hash rest)
    ∙ ap (take 8) (drop_at size (hash ++ rest) 8 (eight (length payload)))
    ∙ take_at hash rest 8 (eight (hash_of payload))

size_read : (bytes payload after : List ℕ) (n : ℕ) → n < 2 ^ 64 → to_le_bytes w64 n ≡ take 8 bytes → IsSized payload → bytes ≡ framed payload ++ after → n ≡ length payload
size_read bytes payload after n fits size sized e =
    same_number n (length payload) fits sized (size ∙ ap (take 8) e ∙ first_eight payload after)

-- a record's bytes would end in another one than 1
pub no_end : (bytes : List ℕ) (n : ℕ) → n < 2 ^ 64 → to_le_bytes w64 n ≡ take 8 bytes → get_or (drop 16 bytes) n 0 ≢ 1 → HasNoRecord bytes
no_end bytes n fits size other =
    record { none = λ payload after sized e. impossible payload after sized e }
  where
    impossible : (payload after : List ℕ) → IsSized payload → bytes ≡ framed payload ++ after → ⊥
    impossible payload after sized e =
        let same : n ≡ length payload = size_read bytes payload after n fits size sized e in
        other (
        ap (λ (x : List ℕ). get_or x n 0) (ap (drop 16) e ∙ body_of payload after)
        ∙ get_or_at payload 1 after 0 n (sym same)
        )

-- a record's payload would have another hash
pub no_hash : (bytes : List ℕ) (n m : ℕ) → n < 2 ^ 64 → m < 2 ^ 64 → to_le_bytes w64 n ≡ take 8 bytes → to_le_bytes w64 m ≡ take 8 (drop 8 bytes) → hash_of (take n (drop 16 bytes)) ≢ m → HasNoRecord bytes
no_hash bytes n m fits fits_hash size hash other =
    record { none = λ payload after sized e. impossible payload after sized e }
  where
    impossible : (payload after : List ℕ) → IsSized payload → bytes ≡ framed payload ++ after → ⊥
    impossible payload after sized e =
        let same : n ≡ length payload = size_read bytes payload after n fits size sized e in
        let read : take n (drop 16 bytes) ≡ payload = ap (take n) (ap (drop 16) e ∙ body_of payload after) ∙ take_at payload (1 ∷ after) n (sym same) in
        let hashes : m ≡ hash_of payload =
        same_number m (hash_of payload) fits_hash (hash_fits 0xcbf2_9ce4_8422_2325 payload (lit< tt)) (hash ∙ ap (λ (x : List ℕ). take 8 (drop 8 x)) e ∙ second_eight payload after) in
        other (ap hash_of read ∙ sym hashes)

-- ---- the loop that reads

-- with these payloads before it, what is left of a journal is the journal
abbrev pub IsReadUpTo : List (List ℕ) → List ℕ → List ℕ → Type 0
IsReadUpTo payloads rest journal = (later : List (List ℕ)) → AreRead later rest → AreRead (payloads ++ later) journal

pub read_more : (payloads : List (List ℕ)) (payload after rest journal : List ℕ) → BeginsWithRecord payload after rest → IsReadUpTo payloads rest journal → IsReadUpTo (payloads ++ payload ∷ []) after journal
read_more payloads payload after rest journal begins so_far = λ later read.
    subst (λ (x : List (List ℕ)). AreRead x journal) (sym (append_assoc payloads (payload ∷ []) later)) (so_far (payload ∷ later) (after, begins, read))

pub read_all : (payloads : List (List ℕ)) (rest journal : List ℕ) → HasNoRecord rest → IsReadUpTo payloads rest journal → AreRead payloads journal
read_all payloads rest journal none so_far = subst (λ (x : List (List ℕ)). AreRead x journal) (append-nil payloads) (so_far [] none)
