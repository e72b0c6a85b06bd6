-- Items that are written into a slice, one after another.
use Rattle.std.proofs.Common.{◌≡◌, ◌≤◌, ◌<◌, ℕ, zero, suc, ◌+◌, List, [], ◌∷◌, ◌++◌, length, take, drop, set, get_or, map, min, refl, ap, subst, arith}
use Rattle.textarea_c_data.specs.Copied.{copied_over, written_at}

-- no room, nothing written
pub written_none : {A : Type 0} (xs : List A) → copied_over [] xs ≡ []
written_none [] = refl
written_none (x ∷ xs) = refl

-- a copy of as many items as there is room for
pub copied_is : {A : Type 0} (xs out : List A) (n : ℕ) → n ≡ min (length xs) (length out) → take n xs ++ drop n out ≡ copied_over out xs
copied_is [] out n is = let none : n ≡ 0 = omega arith in rw none refl
copied_is (x ∷ xs) [] n is = let none : n ≡ 0 = omega arith in rw none refl
copied_is (x ∷ xs) (o ∷ out) zero is = absurd (omega arith)
copied_is {A} (x ∷ xs) (o ∷ out) (suc n) is = let less : n ≡ min (length xs) (length out) = omega arith in ap (λ (r : List A). x ∷ r) (copied_is xs out n less)

-- past its end nothing is written
pub written_past : {A : Type 0} (n : ℕ) (out xs : List A) → length out ≤ n → written_at n out xs ≡ out
written_past zero [] xs past = written_none xs
written_past (suc n) [] xs past = written_none xs
written_past zero (o ∷ out) xs past = absurd (omega arith)
written_past {A} (suc n) (o ∷ out) xs past = let less : length out ≤ n = omega arith in ap (λ (r : List A). o ∷ r) (written_past n out xs less)

-- one item that is written
pub set_is_written : {A : Type 0} (n : ℕ) (out : List A) (x : A) → n < length out → set out n x ≡ written_at n out (x ∷ [])
set_is_written n [] x inside = absurd (omega arith)
set_is_written zero (o ∷ out) x inside = refl
set_is_written {A} (suc n) (o ∷ out) x inside = let less : n < length out = omega arith in ap (λ (r : List A). o ∷ r) (set_is_written n out x less)

-- what is written after other items
written_more : {A : Type 0} (out xs ys : List A) → take (length xs) (copied_over out xs) ++ copied_over (drop (length xs) (copied_over out xs)) ys ≡ copied_over out (xs ++ ys)
written_more out [] ys = refl
written_more [] (x ∷ xs) ys = written_none ys
written_more {A} (o ∷ out) (x ∷ xs) ys = ap (λ (r : List A). x ∷ r) (written_more out xs ys)

pub written_at_more : {A : Type 0} (n m : ℕ) (out xs ys : List A) → m ≡ n + length xs → written_at m (written_at n out xs) ys ≡ written_at n out (xs ++ ys)
written_at_more zero m out xs ys is = let after : m ≡ length xs = omega arith in rw after (written_more out xs ys)
written_at_more (suc n) zero out xs ys is = absurd (omega arith)
written_at_more (suc n) (suc m) [] xs ys is = rw (written_none xs, written_none ys, written_none (xs ++ ys)) refl
written_at_more {A} (suc n) (suc m) (o ∷ out) xs ys is = let less : m ≡ n + length xs = omega arith in ap (λ (r : List A). o ∷ r) (written_at_more n m out xs ys less)

-- the item at an index, and those after it
pub drop_item : {A : Type 0} (xs : List A) (i n : ℕ) (d : A) → i < length xs → n ≡ i + 1 → drop i xs ≡ get_or xs i d ∷ drop n xs
drop_item [] i n d inside next = absurd (omega arith)
drop_item (y ∷ ys) zero zero d inside next = absurd (omega arith)
drop_item {A} (y ∷ ys) zero (suc n) d inside next = let none : n ≡ 0 = omega arith in rw none refl
drop_item (y ∷ ys) (suc i) zero d inside next = absurd (omega arith)
drop_item (y ∷ ys) (suc i) (suc n) d inside next = let less : i < length ys = omega arith in let after : n ≡ i + 1 = omega arith in drop_item ys i n d less after

-- after the first of the items that are left the others lead to the same slice
pub item_out : {A B : Type 0} (f : A → B) (xs : List A) (i n : ℕ) (d : A) (out whole : List B) (y : B) → i < length xs → n ≡ i + 1 → y ≡ f (get_or xs i d)
    → written_at i out (map f (drop i xs)) ≡ whole → written_at n (written_at i out (y ∷ [])) (map f (drop n xs)) ≡ whole
item_out {A} {B} f xs i n d out whole y inside next is h =
    let one : List B = f (get_or xs i d) ∷ [] in let after : n ≡ i + length one = omega arith in
    let h' : written_at i out (f (get_or xs i d) ∷ map f (drop n xs)) ≡ whole = subst (λ (ys : List A). written_at i out (map f ys) ≡ whole) (drop_item xs i n d inside next) h in
    rw is (rw (written_at_more i n out one (map f (drop n xs)) after) h')
