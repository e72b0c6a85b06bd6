-- The nearest index that passes a test: what a search knows on its way, and its result.
use Rattle.std.proofs.Common.{◌≡◌, ℕ, zero, suc, ◌+◌, ◌-◌, ◌<◌, ◌≤◌, inl, inr, Bool, true, false, Option, Some, None, arith, refl, sym, ap, subst, add-one, ◌∙◌}
use Rattle.textarea_text.proofs.Prelude.{common_steps, cases_lt}
use Rattle.std.specs.Option.{IfSome}
use Rattle.textarea_text.specs.Nearest.{IsGreatest, IsLeast, least_below, greatest_below}

-- if no index below n passes, there is no least one
pub least_below-none : (test : ℕ → Bool) (n : ℕ) → ((e : ℕ) → e < n → test e ≡ false) → least_below test n ≡ None
least_below-none test zero failed = refl
least_below-none test (suc n) failed =
    let before = least_below-none test n (λ (e : ℕ) (below : e < n). failed e (omega arith)) in
    let here : test n ≡ false = failed n (omega arith) in
    rw (before, here) refl

-- the first index that passes is the least one
pub least_below-found : (test : ℕ → Bool) (n m : ℕ) → ((e : ℕ) → e < n → test e ≡ false) → test n ≡ true → n < m → least_below test m ≡ Some n
least_below-found test n zero failed here within = absurd (omega arith)
least_below-found test n (suc m) failed here within =
    elim (cases_lt n m) [
      | inl earlier ↦ let found = least_below-found test n m failed here earlier in rw found refl
      | inr last ↦
          let same : m ≡ n = omega arith in
          let before = least_below-none test n failed in
          rw (same, before, here) refl
    ]

-- one failing index more
pub failed_more : (test : ℕ → Bool) (n : ℕ) → ((e : ℕ) → e < n → test e ≡ false) → test n ≡ false → (e : ℕ) → e < n + 1 → test e ≡ false
failed_more test n failed here e below =
    elim (cases_lt e n) [ inl earlier ↦ failed e earlier | inr last ↦ let same : e ≡ n = omega arith in rw same here ]

pub greatest_below-here : (test : ℕ → Bool) (n : ℕ) → test n ≡ true → greatest_below test (n + 1) ≡ Some n
greatest_below-here test n here = rw (add-one, here) refl

pub greatest_below-more : (test : ℕ → Bool) (n : ℕ) → test n ≡ false → greatest_below test (n + 1) ≡ greatest_below test n
greatest_below-more test n here = rw (add-one, here) refl

-- failing indices change nothing
pub greatest_below-past : (test : ℕ → Bool) (n m : ℕ) → n ≤ m → ((e : ℕ) → n ≤ e → test e ≡ false) → greatest_below test m ≡ greatest_below test n
greatest_below-past test n zero within past = let same : n ≡ 0 = omega arith in rw same refl
greatest_below-past test n (suc m) within past =
    elim (cases_lt m n) [
      | inl last ↦ let same : suc m ≡ n = omega arith in ap (greatest_below test) same
      | inr more ↦ let here = past m more in rw here (greatest_below-past test n m more past)
    ]

by_case : (test : ℕ → Bool) (n : ℕ) (b : Bool) → test n ≡ b → ((e : ℕ) → suc n ≤ e → test e ≡ false) →
    (((e : ℕ) → n ≤ e → test e ≡ false) → IsGreatest test (greatest_below test n)) → IsGreatest test (greatest_below test (suc n))
by_case test n true here past below =
    grind (arith, common_steps)
by_case test n false here past below =
    grind (arith, common_steps)

-- if only indices below n may pass, the greatest below n is the greatest of all
pub IsGreatest-greatest_below : (test : ℕ → Bool) (n : ℕ) → ((e : ℕ) → n ≤ e → test e ≡ false) → IsGreatest test (greatest_below test n)
IsGreatest-greatest_below test zero past = λ e. past e (omega arith)
IsGreatest-greatest_below test (suc n) past = by_case test n (test n) refl past (IsGreatest-greatest_below test n)

-- no index passes if none does below n or from n on
pub IsLeast-none : (test : ℕ → Bool) (n : ℕ) → ((e : ℕ) → e < n → test e ≡ false) → ((e : ℕ) → n ≤ e → test e ≡ false) → (e : ℕ) → test e ≡ false
IsLeast-none test n failed past e = elim (cases_lt e n) [ inl earlier ↦ failed e earlier | inr later ↦ past e later ]

-- no index below n passes if none does below n - 1 or at n - 1
pub failed_before : (test : ℕ → Bool) (n : ℕ) → ((e : ℕ) → suc e < n → test e ≡ false) → test (n - 1) ≡ false → (e : ℕ) → e < n → test e ≡ false
failed_before test n failed here e below =
    elim (cases_lt (suc e) n) [ inl earlier ↦ failed e earlier | inr last ↦ let same : e ≡ n - 1 = omega arith in rw same here ]

-- ---- a search from a later start: its indices count from there, and no index before it passes

shifted : (test inner : ℕ → Bool) (start : ℕ) → ((k : ℕ) → test (start + k) ≡ inner k) → (e : ℕ) → start ≤ e → test e ≡ inner (e - start)
shifted test inner start same e from =
    let at : start + (e - start) ≡ e = omega arith in
    subst (λ n. test n ≡ inner (e - start)) at (same (e - start))

-- an index that is found there, counted from 0
abbrev pub from_start : ℕ → Option ℕ → Option ℕ
from_start start None = None
from_start start (Some k) = Some (start + k)

-- the least index of all indices, and its value
pub record IsFound (test : ℕ → Bool) (n : ℕ) (found : Option ℕ) : Type 0 where
  pub least : IsLeast test found
  pub value : found ≡ least_below test n

-- the least index that passes there is the least of all
pub IsFound-shifted : (test inner : ℕ → Bool) (start n : ℕ) (found : Option ℕ) → ((e : ℕ) → e < start → test e ≡ false) → ((k : ℕ) → test (start + k) ≡ inner k) →
    IsLeast inner found → IfSome found (λ k. start + k < n) → IsFound test n (from_start start found)
IsFound-shifted test inner start n None before same none within =
    let failed : (e : ℕ) → test e ≡ false =
    λ e. elim (cases_lt e start) [ inl earlier ↦ before e earlier | inr later ↦ shifted test inner start same e later ∙ none (e - start) ] in
    record { least = failed; value = sym (least_below-none test n (λ e below. failed e)) }
IsFound-shifted test inner start n (Some k) before same found within =
    let here = same k ∙ found.0 in
    let failed : (e : ℕ) → e < start + k → test e ≡ false =
    λ e below. elim (cases_lt e start) [ inl earlier ↦ before e earlier | inr later ↦ shifted test inner start same e later ∙ found.1 (e - start) (omega arith) ] in
    record { least = (here, failed); value = sym (least_below-found test (start + k) n failed here within) }

-- the greatest index that passes there is the greatest of all
pub greatest_shifted-after : (test inner : ℕ → Bool) (start greatest : ℕ) → ((k : ℕ) → 0 < k → test (start + k) ≡ inner k) →
    ((k : ℕ) → greatest < k → inner k ≡ false) → (e : ℕ) → start + greatest < e → test e ≡ false
greatest_shifted-after test inner start greatest same failed e later =
    let at : start + (e - start) ≡ e = omega arith in
    subst (λ n. test n ≡ false) at (same (e - start) (omega arith) ∙ failed (e - start) (omega arith))

-- the value of a search whose greatest index is known
pub greatest_below-found : (test : ℕ → Bool) (n m : ℕ) → test n ≡ true → ((e : ℕ) → n < e → test e ≡ false) → n < m → greatest_below test m ≡ Some n
greatest_below-found test n m here failed within =
    greatest_below-past test (n + 1) m (omega arith) (λ e past. failed e (omega arith)) ∙ greatest_below-here test n here
