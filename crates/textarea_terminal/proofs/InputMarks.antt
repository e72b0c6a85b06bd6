-- Marks in bytes, and their indices.
use Rattle.std.proofs.Common.{◌≡◌, ℕ, zero, suc, ◌+◌, ◌-◌, ◌<◌, ◌≤◌, Bool, true, false, cond, eqb, List, [], ◌∷◌, ◌++◌, length, get_or, take, drop, Option, Some, None, MatchOption, Bor, refl, sym, ap}
use Rattle.std.proofs.Common.{◌∙◌, arith, inl, inr, ⊎_elim, zero-add, length-drop}
use Rattle.std.proofs.lemmas.Bool.{eq-eqb, eqb-true, cases_lt}
use Rattle.std.proofs.lemmas.List.{get_or-take, get_or-drop, length-take}
use Rattle.std.specs.Prelude.{◌&&◌, ◌⊎◌, is_some, option_map}
use Rattle.memchr.specs.Find.{OccursAt, FindsNeedle}
use lib.Pointwise.{pointwise}
use Rattle.textarea_terminal.specs.InputReading.{Reads}
use Rattle.textarea_terminal.specs.InputUnit.{after_mark, mark_index}
use Rattle.std.proofs.lemmas.Bool.{false_from_ne_true}

-- a test of both, that chooses
both : {A : Type 0} (s t : Bool) (a b : A) → cond s (cond t a b) b ≡ cond (s && t) a b
both true t a b = refl
both false t a b = refl

-- what `strip_prefix` compares
after_mark-pointwise : (mark bytes : List ℕ) → after_mark mark bytes ≡ cond (pointwise eqb (take (length mark) bytes) mark) (Some (drop (length mark) bytes)) None
unfolding after_mark
after_mark-pointwise [] bytes = refl
after_mark-pointwise (m ∷ mark) [] = refl
after_mark-pointwise (m ∷ mark) (b ∷ bytes) = rw (after_mark-pointwise mark bytes) (both (eqb b m) (pointwise eqb (take (length mark) bytes) mark) (Some (drop (length mark) bytes)) None)

pub Reads-after_mark : (mark bytes : List ℕ) (r : Option (Bor (List ℕ))) →
    MatchOption r (pointwise eqb (take (length mark) bytes) mark ≡ false)
    (λ x. (pointwise eqb (take (length mark) bytes) mark ≡ true) × (x.now ≡ drop (length mark) bytes) × (length x.now + length mark ≡ length bytes)) →
    Reads (λ (x : Bor (List ℕ)). x.now) r (after_mark mark bytes)
Reads-after_mark mark bytes None h = after_mark-pointwise mark bytes ∙ ap (λ (t : Bool). cond t (Some (drop (length mark) bytes)) None) h
Reads-after_mark mark bytes (Some x) h = after_mark-pointwise mark bytes ∙ ap (λ (t : Bool). cond t (Some (drop (length mark) bytes)) None) h.0 ∙ ap Some (sym h.1)

-- ---- where a mark occurs

-- the mark is at an index
pub record IsAt (bytes mark : List ℕ) (k : ℕ) : Type 0 where
  pub fits : k + length mark ≤ length bytes
  pub reads : (j : ℕ) → j < length mark → get_or bytes (k + j) 0 ≡ get_or mark j 0

begins : (mark bytes : List ℕ) → length mark ≤ length bytes → ((j : ℕ) → j < length mark → get_or bytes j 0 ≡ get_or mark j 0) → is_some (after_mark mark bytes) ≡ true
unfolding after_mark
begins [] bytes fits reads = refl
begins (m ∷ mark) [] fits reads = absurd (omega arith)
begins (m ∷ mark) (b ∷ bytes) fits reads =
    rw (eq-eqb b m (reads 0 (omega arith))) (begins mark bytes (omega arith) (λ j h. reads (suc j) (omega arith)))

equal_bytes : (t : Bool) (rest : Option (List ℕ)) → is_some (cond t rest None) ≡ true → (t ≡ true) × (is_some rest ≡ true)
equal_bytes true rest h = (refl, h)
equal_bytes false rest h = (cc)

begins-fits : (mark bytes : List ℕ) → is_some (after_mark mark bytes) ≡ true → length mark ≤ length bytes
unfolding after_mark
begins-fits [] bytes h = omega arith
begins-fits (m ∷ mark) [] h = (cc)
begins-fits (m ∷ mark) (b ∷ bytes) h = let rest = begins-fits mark bytes (equal_bytes (eqb b m) (after_mark mark bytes) h).1 in omega arith

begins-reads : (mark bytes : List ℕ) → is_some (after_mark mark bytes) ≡ true → (j : ℕ) → j < length mark → get_or bytes j 0 ≡ get_or mark j 0
unfolding after_mark
begins-reads [] bytes h j k = absurd (omega arith)
begins-reads (m ∷ mark) [] h j k = (cc)
begins-reads (m ∷ mark) (b ∷ bytes) h zero k = eqb-true b m (equal_bytes (eqb b m) (after_mark mark bytes) h).0
begins-reads (m ∷ mark) (b ∷ bytes) h (suc j) k = begins-reads mark bytes (equal_bytes (eqb b m) (after_mark mark bytes) h).1 j (omega arith)

IsAt-begins : (mark bytes : List ℕ) → IsAt bytes mark 0 → is_some (after_mark mark bytes) ≡ true
IsAt-begins mark bytes at = begins mark bytes (omega (arith, at.fits)) (λ j h. ap (λ n. get_or bytes n 0) (sym (zero-add j)) ∙ at.reads j h)

IsAt-from_begins : (mark bytes : List ℕ) → is_some (after_mark mark bytes) ≡ true → IsAt bytes mark 0
IsAt-from_begins mark bytes h = record {
  fits = omega (arith, begins-fits mark bytes h);
  reads = λ j k. ap (λ n. get_or bytes n 0) (zero-add j) ∙ begins-reads mark bytes h j k;
}

IsAt-cons : (b : ℕ) (bytes mark : List ℕ) (k : ℕ) → IsAt bytes mark k → IsAt (b ∷ bytes) mark (suc k)
IsAt-cons b bytes mark k at = record {
  fits = omega (arith, at.fits);
  reads = λ j h. let sum : suc k + j ≡ suc (k + j) = omega arith in ap (λ n. get_or (b ∷ bytes) n 0) sum ∙ at.reads j h;
}

IsAt-tail : (b : ℕ) (bytes mark : List ℕ) (k : ℕ) → IsAt (b ∷ bytes) mark (suc k) → IsAt bytes mark k
IsAt-tail b bytes mark k at = record {
  fits = omega (arith, at.fits);
  reads = λ j h. let sum : suc (k + j) ≡ suc k + j = omega arith in ap (λ n. get_or (b ∷ bytes) n 0) sum ∙ at.reads j h;
}

-- the first index at which it occurs
pub index_of-first : (mark bytes : List ℕ) (k : ℕ) → 0 < length mark → IsAt bytes mark k → ((i : ℕ) → i < k → IsAt bytes mark i → ⊥) → mark_index mark bytes ≡ Some k
unfolding mark_index
index_of-first mark [] k some at before = absurd (omega (arith, at.fits))
index_of-first mark (b ∷ bytes) zero some at before = rw (IsAt-begins mark (b ∷ bytes) at) refl
index_of-first mark (b ∷ bytes) (suc k) some at before =
    let here = false_from_ne_true (is_some (after_mark mark (b ∷ bytes))) (λ h. before 0 (omega arith) (IsAt-from_begins mark (b ∷ bytes) h)) in
    rw here (ap (option_map suc) (index_of-first mark bytes k some (IsAt-tail b bytes mark k at) (λ i h a. before (suc i) (omega arith) (IsAt-cons b bytes mark i a))))

index_of-nowhere : (mark bytes : List ℕ) → ((i : ℕ) → IsAt bytes mark i → ⊥) → mark_index mark bytes ≡ None
unfolding mark_index
index_of-nowhere mark [] nowhere = refl
index_of-nowhere mark (b ∷ bytes) nowhere =
    let here = false_from_ne_true (is_some (after_mark mark (b ∷ bytes))) (λ h. nowhere 0 (IsAt-from_begins mark (b ∷ bytes) h)) in
    rw here (ap (option_map suc) (index_of-nowhere mark bytes (λ i a. nowhere (suc i) (IsAt-cons b bytes mark i a))))

pub no_place : (t : Bool) (o : Option ℕ) → cond t (Some 0) (option_map suc o) ≡ None → (t ≡ false) × (o ≡ None)
no_place true o h = (cc)
no_place false None h = (refl, refl)
no_place false (Some k) h = (cc)

-- without an index, it does not occur
pub nowhere-index_of : (mark bytes : List ℕ) → 0 < length mark → mark_index mark bytes ≡ None → (i : ℕ) → IsAt bytes mark i → ⊥
unfolding mark_index
nowhere-index_of mark [] some none i at = absurd (omega (arith, at.fits))
nowhere-index_of mark (b ∷ bytes) some none zero at =
    let components = no_place (is_some (after_mark mark (b ∷ bytes))) (mark_index mark bytes) none in
    let here = IsAt-begins mark (b ∷ bytes) at in
    let both : false ≡ true = sym components.0 ∙ here in (cc)
nowhere-index_of mark (b ∷ bytes) some none (suc i) at =
    nowhere-index_of mark bytes some (no_place (is_some (after_mark mark (b ∷ bytes))) (mark_index mark bytes) none).1 i (IsAt-tail b bytes mark i at)

-- ---- a search from an index on, with no mark before it

IsAt-take : (bytes mark : List ℕ) (n i : ℕ) → n ≤ length bytes → i + length mark ≤ n → IsAt bytes mark i → IsAt (take n bytes) mark i
IsAt-take bytes mark n i h fits at = record {
  fits = rw length-take (omega arith);
  reads = λ j k. get_or-take n bytes (i + j) 0 (omega arith) ∙ at.reads j k;
}

OccursAt-drop : (bytes mark : List ℕ) (from i k : ℕ) → k ≡ from + i → IsAt bytes mark k → OccursAt (drop from bytes) mark i
OccursAt-drop bytes mark from i k e at = record {
  fits = rw length-drop (omega (arith, at.fits));
  reads = λ j h. let sum : from + (i + j) ≡ k + j = omega arith in get_or-drop from bytes (i + j) 0 ∙ ap (λ n. get_or bytes n 0) sum ∙ at.reads j h;
}

IsAt-from_drop : (bytes mark : List ℕ) (from i : ℕ) → from ≤ length bytes → OccursAt (drop from bytes) mark i → IsAt bytes mark (from + i)
IsAt-from_drop bytes mark from i h at = record {
  fits = let fits = simp length-drop at at.fits in omega arith;
  reads = λ j k. let sum : from + i + j ≡ from + (i + j) = omega arith in ap (λ n. get_or bytes n 0) sum ∙ sym (get_or-drop from bytes (i + j) 0) ∙ at.reads j k;
}

abbrev MayBegin : (mark : List ℕ) (n from : ℕ) → Type 0
MayBegin mark n from = (i : ℕ) → i < from → i + length mark ≤ n

nothing_before : (mark bytes : List ℕ) (n from i : ℕ) → 0 < length mark → n ≤ length bytes → mark_index mark (take n bytes) ≡ None → MayBegin mark n from → i < from → IsAt bytes mark i → ⊥
nothing_before mark bytes n from i some h none may below at = nowhere-index_of mark (take n bytes) some none i (IsAt-take bytes mark n i h (may i below) at)

pub index_of-found : (mark bytes : List ℕ) (n from k : ℕ) → 0 < length mark → n ≤ length bytes → from ≤ length bytes → mark_index mark (take n bytes) ≡ None → MayBegin mark n from →
    FindsNeedle (drop from bytes) mark 0 (Some k) → mark_index mark bytes ≡ Some (from + k)
index_of-found mark bytes n from k some h in_bytes none may found =
    index_of-first mark bytes (from + k) some (IsAt-from_drop bytes mark from k in_bytes found.1)
    (λ i below at. ⊎_elim
    (λ (early : i < from). nothing_before mark bytes n from i some h none may early at)
    (λ (late : from ≤ i). let e : i ≡ from + (i - from) = omega arith in found.0.before (i - from) (omega arith) (omega arith) (OccursAt-drop bytes mark from (i - from) i e at))
    (cases_lt i from))

pub index_of-not_found : (mark bytes : List ℕ) (n from : ℕ) → 0 < length mark → n ≤ length bytes → from ≤ length bytes → mark_index mark (take n bytes) ≡ None → MayBegin mark n from →
    FindsNeedle (drop from bytes) mark 0 None → mark_index mark bytes ≡ None
index_of-not_found mark bytes n from some h in_bytes none may found =
    index_of-nowhere mark bytes
    (λ i at. ⊎_elim
    (λ (early : i < from). nothing_before mark bytes n from i some h none may early at)
    (λ (late : from ≤ i). let e : i ≡ from + (i - from) = omega arith in found (i - from) (omega arith) (rw length-drop (omega (arith, at.fits))) (OccursAt-drop bytes mark from (i - from) i e at))
    (cases_lt i from))

-- ---- what is after a mark

chosen_rest : (t : Bool) (o : Option (List ℕ)) (rest : List ℕ) → cond t o None ≡ Some rest → (t ≡ true) × (o ≡ Some rest)
chosen_rest true o rest e = (refl, e)
chosen_rest false o rest e = (cc)

left_none : (t : Bool) (o : Option (List ℕ)) → t ≡ true → cond t o None ≡ None → o ≡ None
left_none true o h e = e
left_none false o h e = (cc)

-- bytes that begin with a mark are it, and what is after it
pub after_mark-whole : (mark bytes rest : List ℕ) → after_mark mark bytes ≡ Some rest → bytes ≡ mark ++ rest
unfolding after_mark
after_mark-whole [] bytes rest e = (cc)
after_mark-whole (m ∷ mark) [] rest e = (cc)
after_mark-whole (m ∷ mark) (b ∷ bytes) rest e =
    let components = chosen_rest (eqb b m) (after_mark mark bytes) rest e in
    let same = eqb-true b m components.0 in
    ap (λ x. x ∷ bytes) same ∙ ap (λ xs. m ∷ xs) (after_mark-whole mark bytes rest components.1)

-- and more bytes are at the end of what is after it
pub after_mark-more : (mark bytes rest more : List ℕ) → after_mark mark bytes ≡ Some rest → after_mark mark (bytes ++ more) ≡ Some (rest ++ more)
unfolding after_mark
after_mark-more [] bytes rest more e = let same : bytes ≡ rest = (cc) in rw same refl
after_mark-more (m ∷ mark) [] rest more e = (cc)
after_mark-more (m ∷ mark) (b ∷ bytes) rest more e =
    let components = chosen_rest (eqb b m) (after_mark mark bytes) rest e in
    rw components.0 (after_mark-more mark bytes rest more components.1)

-- Bytes that begin with a mark only when more bytes follow are a prefix of the mark.
pub after_mark-segment : (mark bytes more : List ℕ) (rest : List ℕ) → after_mark mark bytes ≡ None → after_mark mark (bytes ++ more) ≡ Some rest → (n : ℕ) × (n < length mark) × (bytes ≡ take n mark)
unfolding after_mark
after_mark-segment [] bytes more rest none e = (cc)
after_mark-segment (m ∷ mark) [] more rest none e = (0, omega arith, refl)
after_mark-segment (m ∷ mark) (b ∷ bytes) more rest none e =
    let components = chosen_rest (eqb b m) (after_mark mark (bytes ++ more)) rest e in
    let same = eqb-true b m components.0 in
    let no_rest : after_mark mark bytes ≡ None = left_none (eqb b m) (after_mark mark bytes) components.0 none in
    let segment = after_mark-segment mark bytes more rest no_rest components.1 in
    (suc segment.0, omega (arith, segment.1), ap (λ x. x ∷ bytes) same ∙ ap (λ xs. m ∷ xs) segment.2)

-- a mark written at the front
pub after_mark-written : (mark rest : List ℕ) → after_mark mark (mark ++ rest) ≡ Some rest
unfolding after_mark
after_mark-written [] rest = refl
after_mark-written (m ∷ mark) rest = rw (eq-eqb m m refl) (after_mark-written mark rest)

-- ---- indices with more bytes

-- the index by a test of the first byte and the index in the rest
placed : (t : Bool) (o : Option ℕ) (k : ℕ) → cond t (Some 0) (option_map suc o) ≡ Some k → ((t ≡ true) × (k ≡ 0)) ⊎ ((t ≡ false) × ((j : ℕ) × (k ≡ suc j) × (o ≡ Some j)))
placed true o k e = inl (refl, cc)
placed false None k e = inl (cc)
placed false (Some j) k e = inr (refl, (j, cc, refl))

-- a mark fits at its index
pub index_of-fits : (mark bytes : List ℕ) (k : ℕ) → mark_index mark bytes ≡ Some k → k + length mark ≤ length bytes
unfolding mark_index
index_of-fits mark [] k e = (cc)
index_of-fits mark (b ∷ bytes) k e = ⊎_elim
    (λ (here : (is_some (after_mark mark (b ∷ bytes)) ≡ true) × (k ≡ 0)). let fits = begins-fits mark (b ∷ bytes) here.0 in omega (arith, here.1))
    (λ (later : (is_some (after_mark mark (b ∷ bytes)) ≡ false) × ((j : ℕ) × (k ≡ suc j) × (mark_index mark bytes ≡ Some j))). let fits = index_of-fits mark bytes later.1.0 later.1.2 in omega (arith, later.1.1))
    (placed (is_some (after_mark mark (b ∷ bytes))) (mark_index mark bytes) k e)

pub still_none : (mark bytes more : List ℕ) → length mark ≤ length bytes → is_some (after_mark mark bytes) ≡ false → is_some (after_mark mark (bytes ++ more)) ≡ false
unfolding after_mark
still_none [] bytes more fits e = (cc)
still_none (m ∷ mark) [] more fits e = absurd (omega arith)
still_none (m ∷ mark) (b ∷ bytes) more fits e = still_none_cons (eqb b m) (after_mark mark bytes) (after_mark mark (bytes ++ more)) (still_none mark bytes more (omega arith)) e
  where
    still_none_cons : (t : Bool) (o p : Option (List ℕ)) → (is_some o ≡ false → is_some p ≡ false) → is_some (cond t o None) ≡ false → is_some (cond t p None) ≡ false
    still_none_cons true o p h e = h e
    still_none_cons false o p h e = refl

still_some : (mark bytes more : List ℕ) → is_some (after_mark mark bytes) ≡ true → is_some (after_mark mark (bytes ++ more)) ≡ true
unfolding after_mark
still_some [] bytes more e = refl
still_some (m ∷ mark) [] more e = (cc)
still_some (m ∷ mark) (b ∷ bytes) more e =
    let components = equal_bytes (eqb b m) (after_mark mark bytes) e in
    rw components.0 (still_some mark bytes more components.1)

-- with more bytes a mark's first index stays
pub index_of-more : (mark bytes more : List ℕ) (k : ℕ) → mark_index mark bytes ≡ Some k → mark_index mark (bytes ++ more) ≡ Some k
unfolding mark_index
index_of-more mark [] more k e = (cc)
index_of-more mark (b ∷ bytes) more k e = ⊎_elim
    (λ (here : (is_some (after_mark mark (b ∷ bytes)) ≡ true) × (k ≡ 0)). rw (still_some mark (b ∷ bytes) more here.0) (ap Some (sym here.1)))
    (λ (later : (is_some (after_mark mark (b ∷ bytes)) ≡ false) × ((j : ℕ) × (k ≡ suc j) × (mark_index mark bytes ≡ Some j))).
    let fits = index_of-fits mark bytes later.1.0 later.1.2 in
    rw (still_none mark (b ∷ bytes) more (omega arith) later.0) (ap (option_map suc) (index_of-more mark bytes more later.1.0 later.1.2) ∙ ap Some (sym later.1.1)))
    (placed (is_some (after_mark mark (b ∷ bytes))) (mark_index mark bytes) k e)
