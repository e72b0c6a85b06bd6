-- The results of `find`: an element that is in the list and passes, or none if none passes.
use Rattle.std.proofs.Common.{◌≡◌, ℕ, zero, suc, ◌<◌, Bool, true, false, List, [], ◌∷◌, length, get_or, find, Some, None, inl, inr, arith, suc-le-suc, le_of_suc-le-suc}
use Rattle.std.proofs.lemmas.Bool.Decides.{nat_tests}
use Rattle.std.proofs.lemmas.Bool.{cases_Bool}

-- the element is in the list and passes the test
pub record IsFirstFound {X : Type 0} (test : X → Bool) (xs : List X) (x : X) : Type 0 where
  pub index : ℕ
  pub within : index < length xs
  pub at : (d : X) → get_or xs index d ≡ x
  pub passes : test x ≡ true

pub IsFirstFound-find : {X : Type 0} (test : X → Bool) (xs : List X) (x : X) → find test xs ≡ Some x → IsFirstFound test xs x
IsFirstFound-find test [] x e = absurd cc
IsFirstFound-find {X} test (y ∷ ys) x e =
    elim (cases_Bool (test y)) [
      | inl here ↦
          let is : y ≡ x = grind (arith, nat_tests) in
          record { index = 0; within = omega arith; at = λ d. is; passes = rw (← is) here }
      | inr not_here ↦
          let rest = IsFirstFound-find test ys x (grind (arith, nat_tests)) in
          record { index = suc rest.index; within = suc-le-suc rest.within; at = λ d. rest.at d; passes = rest.passes }
    ]

pub fails-find : {X : Type 0} (test : X → Bool) (xs : List X) → find test xs ≡ None → (k : ℕ) (d : X) → k < length xs → test (get_or xs k d) ≡ false
fails-find test [] e k d within = absurd (omega arith)
fails-find test (y ∷ ys) e zero d within = grind (arith, nat_tests)
fails-find test (y ∷ ys) e (suc k) d within = fails-find test ys (grind (arith, nat_tests)) k d (le_of_suc-le-suc within)
