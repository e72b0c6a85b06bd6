-- Lemmas on changes of a text.
use Rattle.std.proofs.Common.{◌≡◌, ◌++◌, ◌<◌, ◌≤◌, ◌+◌, ◌-◌, ◌^◌, ◌∙◌, ℕ, suc, Bool, Bor, map, true, false, if◌then◌else◌, List, [], ◌∷◌, length, take, drop, drop-cons, get_or, min, refl, sym, ap, arith, IfOk, Result, Ok, Err}
use Rattle.std.proofs.lemmas.Bool.Decides.{nat_tests}
use Rattle.std.proofs.lemmas.List.{append_assoc, drop-drop, drop_all, drop_at, length-append, take-append-drop, take_at, take_min, take_more, take_rest}
use Rattle.std.proofs.lemmas.Nat.{from_le_bytes-to_le_bytes_8}
use Rattle.std.specs.Prelude.{nat_lt}
use Rattle.std.specs.Int.{w64, from_le_bytes, to_le_bytes}
use Rattle.textarea_disk.proofs.Journals.{eight, record_length}
use Rattle.textarea_disk.specs.Journal.{framed, journal_of}
use Rattle.textarea_disk.specs.TextChange.{change_bytes, with_change, put_between}

-- ---- a payload

payload_length : (first last : ℕ) (middle : List ℕ) → length (change_bytes first last middle) ≡ 16 + length middle
payload_length first last middle =
    omega (arith, length-append (to_le_bytes w64 first) (to_le_bytes w64 last ++ middle), length-append (to_le_bytes w64 last) middle, eight first, eight last)

first_number : (first last : ℕ) (middle : List ℕ) → first < 2 ^ 64 → from_le_bytes w64 (take 8 (change_bytes first last middle)) ≡ first
first_number first last middle h =
    ap (from_le_bytes w64) (take_at (to_le_bytes w64 first) (to_le_bytes w64 last ++ middle) 8 (eight first)) ∙ from_le_bytes-to_le_bytes_8 first h

after_first : (first last : ℕ) (middle : List ℕ) → drop 8 (change_bytes first last middle) ≡ to_le_bytes w64 last ++ middle
after_first first last middle = drop_at (to_le_bytes w64 first) (to_le_bytes w64 last ++ middle) 8 (eight first)

last_number : (first last : ℕ) (middle : List ℕ) → last < 2 ^ 64 → from_le_bytes w64 (take 8 (drop 8 (change_bytes first last middle))) ≡ last
last_number first last middle h =
    ap (λ (b : List ℕ). from_le_bytes w64 (take 8 b)) (after_first first last middle)
    ∙ ap (from_le_bytes w64) (take_at (to_le_bytes w64 last) middle 8 (eight last)) ∙ from_le_bytes-to_le_bytes_8 last h

middle_is : (first last : ℕ) (middle : List ℕ) → drop 16 (change_bytes first last middle) ≡ middle
middle_is first last middle =
    sym (drop-drop 8 8 (change_bytes first last middle)) ∙ ap (drop 8) (after_first first last middle) ∙ drop_at (to_le_bytes w64 last) middle 8 (eight last)

-- whether a payload is too short
by_length : (length_is : ℕ) (text other : List ℕ) → 16 ≤ length_is → (if nat_lt length_is 16 then text else other) ≡ other
by_length length_is text other h = by_test (nat_lt length_is 16) refl
  where
    by_test : (short : Bool) → nat_lt length_is 16 ≡ short → (if short then text else other) ≡ other
    by_test true e = absurd (grind (arith, nat_tests, e, h))
    by_test false e = refl

-- what a payload does to a text
pub changed_so : (first last : ℕ) (middle text : List ℕ) → first < 2 ^ 64 → last < 2 ^ 64 → with_change text (change_bytes first last middle) ≡ put_between first last middle text
changed_so first last middle text hf hl =
    let payload = change_bytes first last middle in
    by_length (length payload) text _ (omega (arith, payload_length first last middle))
    ∙ ap (λ (n : ℕ). put_between n (from_le_bytes w64 (take 8 (drop 8 payload))) (drop 16 payload) text) (first_number first last middle hf)
    ∙ ap (λ (n : ℕ). put_between first n (drop 16 payload) text) (last_number first last middle hl)
    ∙ ap (λ (m : List ℕ). put_between first last m text) (middle_is first last middle)

-- ---- what both texts begin and end with

pub one_more_first : (old new : List ℕ) (count : ℕ) → count < length old → count < length new → get_or old count 0 ≡ get_or new count 0 → take count old ≡ take count new →
    take (count + 1) old ≡ take (count + 1) new
one_more_first old new count ho hn same before =
    take_more old count 0 ho ∙ ap (λ (t : List ℕ). t ++ get_or old count 0 ∷ []) before ∙ ap (λ (b : ℕ). take count new ++ b ∷ []) same ∙ sym (take_more new count 0 hn)

pub no_last : (old new : List ℕ) → drop (length old - 0) old ≡ drop (length new - 0) new
no_last old new = drop_all (length old - 0) old (omega arith) ∙ sym (drop_all (length new - 0) new (omega arith))

-- the last bytes, by the one before them
last_by_one : (bytes : List ℕ) (count : ℕ) → count < length bytes → drop (length bytes - (count + 1)) bytes ≡ get_or bytes (length bytes - count - 1) 0 ∷ drop (length bytes - count) bytes
last_by_one bytes count h =
    let at : length bytes - (count + 1) ≡ length bytes - count - 1 = omega arith in
    let next : suc (length bytes - count - 1) ≡ length bytes - count = omega (arith, h) in
    ap (λ (n : ℕ). drop n bytes) at ∙ drop-cons bytes (length bytes - count - 1) 0 (omega (arith, h))
    ∙ ap (λ (n : ℕ). get_or bytes (length bytes - count - 1) 0 ∷ drop n bytes) next

pub one_more_last : (old new : List ℕ) (count : ℕ) → count < length old → count < length new →
    get_or old (length old - count - 1) 0 ≡ get_or new (length new - count - 1) 0 → drop (length old - count) old ≡ drop (length new - count) new →
    drop (length old - (count + 1)) old ≡ drop (length new - (count + 1)) new
one_more_last old new count ho hn same after =
    last_by_one old count ho ∙ ap (λ (b : ℕ). b ∷ drop (length old - count) old) same
    ∙ ap (λ (t : List ℕ). get_or new (length new - count - 1) 0 ∷ t) after ∙ sym (last_by_one new count hn)

-- the text after the change is the new one
pub is_new : (old new : List ℕ) (first last : ℕ) → first ≤ length new → last ≤ length new - first → take first old ≡ take first new →
    drop (length old - last) old ≡ drop (length new - last) new → put_between first last (take (length new - last - first) (drop first new)) old ≡ new
is_new old new first last fn ln begin end =
    let count = length new - last - first in
    let middle = take count (drop first new) in
    let at : length new - last ≡ first + count = omega (arith, fn, ln) in
    let after : drop (length old - last) old ≡ drop count (drop first new) = end ∙ ap (λ (n : ℕ). drop n new) at ∙ sym (drop-drop count first new) in
    ap (λ (a : List ℕ). a ++ middle ++ drop (length old - last) old) begin
    ∙ ap (λ (b : List ℕ). take first new ++ middle ++ b) after
    ∙ append_assoc (take first new) middle (drop count (drop first new))
    ∙ ap (λ (b : List ℕ). take first new ++ b) (take-append-drop count (drop first new)) ∙ take-append-drop first new

-- what holds of each value holds of the one of a result
pub ok_so : {V E : Type 0} {P Q : V → Type 0} (result : Result V E) → ((v : V) → P v → Q v) → IfOk result P → IfOk result Q
ok_so (Ok v) f h = f v h
ok_so (Err e) f h = tt

-- ---- a change that is made

-- more first or last bytes than there are are all
pub put_min : (first last : ℕ) (middle text : List ℕ) → put_between (min first (length text)) (min last (length text)) middle text ≡ put_between first last middle text
put_min first last middle text =
    let same : length text - min last (length text) ≡ length text - last = omega arith in
    ap (λ (t : List ℕ). t ++ middle ++ drop (length text - min last (length text)) text) (take_min first text)
    ∙ ap (λ (n : ℕ). take first text ++ middle ++ drop n text) same

-- a payload that isn't too short says how many first and last bytes stay
pub change_made : (text payload : List ℕ) (first last : ℕ) → 16 ≤ length payload → first ≡ min (from_le_bytes w64 (take 8 payload)) (length text) →
    last ≡ min (from_le_bytes w64 (take 8 (take (length payload - 8) (drop 8 payload)))) (length text) →
    put_between first last (take (length payload - 16) (drop 16 payload)) text ≡ with_change text payload
change_made text payload first last long hf hl =
    let begin = from_le_bytes w64 (take 8 payload) in
    let end = from_le_bytes w64 (take 8 (drop 8 payload)) in
    let last_is : last ≡ min end (length text) = hl ∙ ap (λ (b : List ℕ). min (from_le_bytes w64 (take 8 b)) (length text)) (take_rest payload 8) in
    ap (λ (n : ℕ). put_between n last (take (length payload - 16) (drop 16 payload)) text) hf
    ∙ ap (λ (n : ℕ). put_between (min begin (length text)) n (take (length payload - 16) (drop 16 payload)) text) last_is
    ∙ ap (λ (m : List ℕ). put_between (min begin (length text)) (min end (length text)) m text) (take_rest payload 16)
    ∙ put_min begin end (drop 16 payload) text ∙ sym (by_length (length payload) text (put_between begin end (drop 16 payload) text) long)

-- ---- the size of records

pub size_goes_on : (size : ℕ) (payload : List ℕ) (rest : List (List ℕ)) →
    min (min (size + (17 + length payload)) (2 ^ 64 - 1) + length (journal_of rest)) (2 ^ 64 - 1) ≡ min (size + length (journal_of (payload ∷ rest))) (2 ^ 64 - 1)
size_goes_on size payload rest = omega (arith, length-append (framed payload) (journal_of rest), record_length payload)

-- nothing is left
pub size_at_end : (size total : ℕ) (left : List (Bor (List ℕ))) → left ≡ [] → size ≤ 2 ^ 64 - 1 →
    min (size + length (journal_of (map (λ (payload : Bor (List ℕ)). payload.now) left))) (2 ^ 64 - 1) ≡ total → size ≡ total
size_at_end size total left none fits is =
    let no_more : length (journal_of (map (λ (payload : Bor (List ℕ)). payload.now) left)) ≡ 0 =
    ap (λ (l : List (Bor (List ℕ))). length (journal_of (map (λ (payload : Bor (List ℕ)). payload.now) l))) none in
    omega (arith, no_more, fits, is)
