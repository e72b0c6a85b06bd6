-- Stable sorts: there is one result, and inserting one by one gives it.
use Rattle.std.proofs.Common.{◌≡◌, ℕ, zero, suc, ◌+◌, Bool, true, false, cond, List, [], ◌∷◌, get_or, filter, refl, sym, subst, ◌∙◌, inl, inr, arith, suc-le-suc, zero-le}
use Rattle.std.proofs.lemmas.Bool.{cases_Bool}
use Rattle.std.proofs.lemmas.Bool.Decides.{nat_tests}
use Rattle.std.proofs.lemmas.List.Elements.{All-from_recursion, recursion_from_All}
use Rattle.std.proofs.lemmas.List.Sorted.{sorted_far}
use Rattle.textarea_ranges.specs.Prelude.{AllByRecursion, IsStrictWeakOrder, IsSortedBy, IsStableBy, ties}
use Rattle.textarea_ranges.proofs.Lists.{EachLater, filter-retained, first_retained}

-- the second element does not come before the first
abbrev pub NotBefore : {X : Type 0} → (X → X → Bool) → X → X → Type 0
NotBefore lt x y = lt y x ≡ false

pub later-IsSortedBy : {X : Type 0} (lt : X → X → Bool) → IsStrictWeakOrder lt → (xs : List X) → IsSortedBy lt xs → EachLater (NotBefore lt) xs
later-IsSortedBy lt o [] up = tt
later-IsSortedBy lt o (x ∷ xs) up = (
  recursion_from_All (NotBefore lt x) xs (λ k d within. sorted_far lt o (x ∷ xs) up zero (suc k) d zero-le (suc-le-suc within)),
  later-IsSortedBy lt o xs (λ k d from within.
      let next_is : suc k + 1 ≡ suc (k + 1) = omega arith in
      subst (λ (n : ℕ). lt (get_or (x ∷ xs) n d) (get_or xs k d) ≡ false) next_is (up (suc k) d zero-le (omega arith))),
)

pub IsSortedBy-later : {X : Type 0} (lt : X → X → Bool) (xs : List X) → EachLater (NotBefore lt) xs → IsSortedBy lt xs
IsSortedBy-later lt [] later k d from within = absurd (omega arith)
IsSortedBy-later lt (x ∷ xs) later zero d from within = All-from_recursion (NotBefore lt x) xs later.0 zero d (omega arith)
IsSortedBy-later lt (x ∷ xs) later (suc k) d from within =
    let next_is : suc (k + 1) ≡ suc k + 1 = omega arith in
    subst (λ (n : ℕ). lt (get_or (x ∷ xs) n d) (get_or xs k d) ≡ false) next_is (IsSortedBy-later lt xs later.1 k d zero-le (omega arith))

not_before_itself : {X : Type 0} (lt : X → X → Bool) → IsStrictWeakOrder lt → (x : X) → lt x x ≡ false
not_before_itself lt o x = elim (cases_Bool (lt x x)) [ inl before ↦ o.one_way x x before | inr not_before ↦ not_before ]

ties_from : {X : Type 0} (lt : X → X → Bool) (x y : X) → lt x y ≡ false → lt y x ≡ false → ties lt x y ≡ true
ties_from lt x y p q = rw (p, q) refl

ties_itself : {X : Type 0} (lt : X → X → Bool) → IsStrictWeakOrder lt → (x : X) → ties lt x x ≡ true
ties_itself lt o x = ties_from lt x x (not_before_itself lt o x) (not_before_itself lt o x)

-- the first of a sorted list does not come before the first of the other
first_not_before : {X : Type 0} (lt : X → X → Bool) → IsStrictWeakOrder lt → (x y : X) (xs ys : List X) → EachLater (NotBefore lt) (y ∷ ys) → filter (ties lt x) (y ∷ ys) ≡ filter (ties lt x) (x ∷ xs) → lt x y ≡ false
first_not_before lt o x y xs ys later e =
    first_retained (NotBefore lt y) (ties lt x) (y ∷ ys) x (filter (ties lt x) xs) (not_before_itself lt o y, later.0) (e ∙ filter-retained (ties lt x) x xs (ties_itself lt o x))

filter-tails : {X : Type 0} (test : X → Bool) (x y : X) (xs ys : List X) → x ≡ y → filter test (y ∷ ys) ≡ filter test (x ∷ xs) → filter test ys ≡ filter test xs
filter-tails test x y xs ys same e = grind (arith, nat_tests)

-- two sorted lists with ties in the same order are the same list
pub same_sorted : {X : Type 0} (lt : X → X → Bool) → IsStrictWeakOrder lt → (xs ys : List X) → EachLater (NotBefore lt) xs → EachLater (NotBefore lt) ys → IsStableBy lt xs ys → xs ≡ ys
same_sorted lt o [] [] p q stable = refl
same_sorted lt o [] (y ∷ ys) p q stable =
    let some : y ∷ filter (ties lt y) ys ≡ [] = sym (filter-retained (ties lt y) y ys (ties_itself lt o y)) ∙ stable y in
    absurd cc
same_sorted lt o (x ∷ xs) [] p q stable =
    let some : x ∷ filter (ties lt x) xs ≡ [] = sym (filter-retained (ties lt x) x xs (ties_itself lt o x)) ∙ sym (stable x) in
    absurd cc
same_sorted {X} lt o (x ∷ xs) (y ∷ ys) p q stable =
    let one : lt x y ≡ false = first_not_before lt o x y xs ys q (stable x) in
    let other : lt y x ≡ false = first_not_before lt o y x ys xs p (sym (stable y)) in
    let both : y ∷ filter (ties lt x) ys ≡ x ∷ filter (ties lt x) xs =
    sym (filter-retained (ties lt x) y ys (ties_from lt x y one other)) ∙ stable x ∙ filter-retained (ties lt x) x xs (ties_itself lt o x) in
    let first : x ≡ y = cc in
    let rest : xs ≡ ys = same_sorted lt o xs ys p.1 q.1 (λ z. filter-tails (ties lt z) x y xs ys first (stable z)) in
    cc

-- ---- an insertion

-- the list with an element inserted after those that come before it
abbrev pub put : {X : Type 0} → (X → X → Bool) → X → List X → List X
put lt x [] = x ∷ []
put lt x (y ∷ ys) = cond (lt y x) (y ∷ put lt x ys) (x ∷ y ∷ ys)

-- a fact of the element and of each in the list is one of each in the new list
pub each_put : {X : Type 0} (P : X → Type 0) (lt : X → X → Bool) (x : X) (ys : List X) → P x → AllByRecursion P ys → AllByRecursion P (put lt x ys)
each_put P lt x [] h all = (h, tt)
each_put {X} P lt x (y ∷ ys) h all =
    elim (cases_Bool (lt y x)) [
      | inl past ↦ rw past (all.0, each_put P lt x ys h all.1)
      | inr here ↦ rw here (h, all)
    ]

-- an element does not tie with two others of which one comes before the other
no_third : {X : Type 0} (lt : X → X → Bool) → IsStrictWeakOrder lt → (x y z : X) → lt y x ≡ true → ties lt z x ≡ true → ties lt z y ≡ true → ⊥
no_third lt o x y z before p q = grind (arith, nat_tests)

pub stable_put : {X : Type 0} (lt : X → X → Bool) → IsStrictWeakOrder lt → (x : X) (ys : List X) → IsStableBy lt (x ∷ ys) (put lt x ys)
stable_put lt o x [] z = refl
stable_put {X} lt o x (y ∷ ys) z = grind (arith, nat_tests, stable_put lt o x ys z, no_third lt o x y z)

after_first : {X : Type 0} (lt : X → X → Bool) → IsStrictWeakOrder lt → (x y : X) (ys : List X) → lt y x ≡ false → AllByRecursion (NotBefore lt y) ys → AllByRecursion (NotBefore lt x) ys
after_first lt o x y [] h all = tt
after_first lt o x y (z ∷ zs) h all = (o.chain z y x all.0 h, after_first lt o x y zs h all.1)

pub sorted_put : {X : Type 0} (lt : X → X → Bool) → IsStrictWeakOrder lt → (x : X) (ys : List X) → EachLater (NotBefore lt) ys → EachLater (NotBefore lt) (put lt x ys)
sorted_put lt o x [] later = (tt, tt)
sorted_put {X} lt o x (y ∷ ys) later =
    elim (cases_Bool (lt y x)) [
      | inl past ↦ rw past (each_put (NotBefore lt y) lt x ys (o.one_way y x past) later.0, sorted_put lt o x ys later.1)
      | inr here ↦ rw here ((here, after_first lt o x y ys here later.0), later)
    ]

-- ---- a relation of each two, which doesn't depend on the order

pub later_put : {X : Type 0} (R : X → X → Type 0) → ((x y : X) → R x y → R y x) → (lt : X → X → Bool) (x : X) (ys : List X) → EachLater R (x ∷ ys) → EachLater R (put lt x ys)
later_put R flip lt x [] later = later
later_put {X} R flip lt x (y ∷ ys) later =
    elim (cases_Bool (lt y x)) [
      | inl past ↦ rw past (each_put (R y) lt x ys (flip x y later.0.0) later.1.0, later_put R flip lt x ys (later.0.1, later.1.1))
      | inr here ↦ rw here later
    ]

pub each_from_put : {X : Type 0} (P : X → Type 0) (lt : X → X → Bool) (x : X) (ys : List X) → AllByRecursion P (put lt x ys) → AllByRecursion P (x ∷ ys)
each_from_put P lt x [] all = all
each_from_put {X} P lt x (y ∷ ys) all =
    elim (cases_Bool (lt y x)) [
      | inl past ↦
          let components : AllByRecursion P (y ∷ put lt x ys) = rw past at all in
          let rest = each_from_put P lt x ys components.1 in
          (rest.0, (components.0, rest.1))
      | inr here ↦ rw here at all
    ]

pub later_from_put : {X : Type 0} (R : X → X → Type 0) → ((x y : X) → R x y → R y x) → (lt : X → X → Bool) (x : X) (ys : List X) → EachLater R (put lt x ys) → EachLater R (x ∷ ys)
later_from_put R flip lt x [] later = later
later_from_put {X} R flip lt x (y ∷ ys) later =
    elim (cases_Bool (lt y x)) [
      | inl past ↦
          let components : EachLater R (y ∷ put lt x ys) = rw past at later in
          let first = each_from_put (R y) lt x ys components.0 in
          let rest = later_from_put R flip lt x ys components.1 in
          ((flip y x first.0, rest.0), (first.1, rest.1))
      | inr here ↦ rw here at later
    ]
