-- The nearest index that passes a test, as a relation and as a value.
use Rattle.std.specs.Prelude.{◌≡◌, ℕ, zero, suc, ◌<◌, Bool, true, false, Option, Some, None, MatchOption, if◌then◌else◌}
use Rattle.std.specs.Option.{option_or}

-- `found` is the least index that passes, or `None` if no index does
abbrev pub IsLeast : (ℕ → Bool) → Option ℕ → Type 0
IsLeast test found =
    MatchOption found ((e : ℕ) → test e ≡ false)
    (λ least. (test least ≡ true) × ((e : ℕ) → e < least → test e ≡ false))

-- `found` is the greatest index that passes, or `None` if no index does
abbrev pub IsGreatest : (ℕ → Bool) → Option ℕ → Type 0
IsGreatest test found =
    MatchOption found ((e : ℕ) → test e ≡ false)
    (λ greatest. (test greatest ≡ true) × ((e : ℕ) → greatest < e → test e ≡ false))

-- the index, if it passes
abbrev pub passing : (ℕ → Bool) → ℕ → Option ℕ
passing test e = if test e then Some e else None

-- the least index below `n` that passes
abbrev pub least_below : (ℕ → Bool) → ℕ → Option ℕ
least_below test zero = None
least_below test (suc n) = option_or (least_below test n) (passing test n)

-- the greatest index below `n` that passes
abbrev pub greatest_below : (ℕ → Bool) → ℕ → Option ℕ
greatest_below test zero = None
greatest_below test (suc n) = option_or (passing test n) (greatest_below test n)
