-- Properties of each element of a list, and of two lists together, which any crate may cite.
use Rattle.std.proofs.Common.{ℕ, zero, suc, ◌<◌, List, [], ◌∷◌, ◌++◌, length, get_or, arith}
use Rattle.std.specs.List.{AllByRecursion}

pub all_append : {X : Type 0} (P : X → Type 0) (xs ys : List X) → AllByRecursion P xs → AllByRecursion P ys → AllByRecursion P (xs ++ ys)
all_append P [] ys p q = q
all_append P (x ∷ xs) ys p q = (p.0, all_append P xs ys p.1 q)

-- a property of each element of two lists together is one of each list
pub all_split : {X : Type 0} (P : X → Type 0) (xs ys : List X) → AllByRecursion P (xs ++ ys) → AllByRecursion P xs × AllByRecursion P ys
all_split P [] ys p = (tt, p)
all_split P (x ∷ xs) ys p = let rest = all_split P xs ys p.1 in ((p.0, rest.0), rest.1)

-- and one of the element at each index
pub all_at : {X : Type 0} (P : X → Type 0) (items : List X) (i : ℕ) (d : X) → AllByRecursion P items → i < length items → P (get_or items i d)
all_at P [] i d h within = absurd (omega arith)
all_at P (item ∷ items) zero d h within = h.0
all_at P (item ∷ items) (suc i) d h within = all_at P items i d h.1 (omega arith)

-- a property of each element follows from another one, or from two
pub all_weaker : {X : Type 0} (P Q : X → Type 0) → ((x : X) → P x → Q x) → (xs : List X) → AllByRecursion P xs → AllByRecursion Q xs
all_weaker P Q weaker [] all = tt
all_weaker P Q weaker (x ∷ xs) all = (weaker x all.0, all_weaker P Q weaker xs all.1)

pub all_both : {X : Type 0} (P Q R : X → Type 0) → ((x : X) → P x → Q x → R x) → (xs : List X) →
    AllByRecursion P xs → AllByRecursion Q xs → AllByRecursion R xs
all_both P Q R both [] p q = tt
all_both P Q R both (x ∷ xs) p q = (both x p.0 q.0, all_both P Q R both xs p.1 q.1)
