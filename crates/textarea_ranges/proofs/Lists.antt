-- Facts of each element of a list, and of each two, by recursion over the list.
use Rattle.std.proofs.Common.{◌≡◌, zero, suc, Bool, true, false, List, [], ◌∷◌, filter, AllPairs, sym, ◌∙◌, inl, inr, arith, suc-le-suc, le_of_suc-le-suc}
use Rattle.std.proofs.lemmas.Bool.{cases_Bool, cond-true, cond-false}
use Rattle.std.proofs.lemmas.List.Elements.{All-from_recursion, recursion_from_All}
use Rattle.std.specs.List.{AllByRecursion}

pub filter-retained : {X : Type 0} (test : X → Bool) (x : X) (xs : List X) → test x ≡ true → filter test (x ∷ xs) ≡ x ∷ filter test xs
filter-retained test x xs h = cond-true _ _ _ h

pub filter-dropped : {X : Type 0} (test : X → Bool) (x : X) (xs : List X) → test x ≡ false → filter test (x ∷ xs) ≡ filter test xs
filter-dropped test x xs h = cond-false _ _ _ h

-- a fact of each element is one of the first that passes
pub first_retained : {X : Type 0} (P : X → Type 0) (test : X → Bool) (ys : List X) (x : X) (rest : List X) → AllByRecursion P ys → filter test ys ≡ x ∷ rest → P x
first_retained P test [] x rest all e = absurd cc
first_retained {X} P test (y ∷ ys) x rest all e =
    elim (cases_Bool (test y)) [
      | inl retained ↦
          let same : y ∷ filter test ys ≡ x ∷ rest = sym (filter-retained test y ys retained) ∙ e in
          let is : y ≡ x = cc in
          rw (← is) all.0
      | inr dropped ↦ first_retained P test ys x rest all.1 (sym (filter-dropped test y ys dropped) ∙ e)
    ]

-- the relation of each element to each later one
abbrev pub EachLater : {X : Type 0} → (X → X → Type 0) → List X → Type 0
EachLater R [] = Unit {0}
EachLater R (x ∷ xs) = AllByRecursion (R x) xs × EachLater R xs

pub AllPairs-later : {X : Type 0} (R : X → X → Type 0) (xs : List X) → EachLater R xs → AllPairs R xs
AllPairs-later R [] later i j d before within = absurd (omega arith)
AllPairs-later R (x ∷ xs) later i zero d before within = absurd (omega arith)
AllPairs-later R (x ∷ xs) later zero (suc j) d before within = All-from_recursion (R x) xs later.0 j d (le_of_suc-le-suc within)
AllPairs-later R (x ∷ xs) later (suc i) (suc j) d before within = AllPairs-later R xs later.1 i j d (le_of_suc-le-suc before) (le_of_suc-le-suc within)

pub later-AllPairs : {X : Type 0} (R : X → X → Type 0) (xs : List X) → AllPairs R xs → EachLater R xs
later-AllPairs R [] pairs = tt
later-AllPairs R (x ∷ xs) pairs = (
  recursion_from_All (R x) xs (λ k d within. pairs zero (suc k) d (omega arith) (suc-le-suc within)),
  later-AllPairs R xs (λ i j d before within. pairs (suc i) (suc j) d (suc-le-suc before) (suc-le-suc within)),
)
