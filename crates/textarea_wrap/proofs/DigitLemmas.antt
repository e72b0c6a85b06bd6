-- The number of decimal digits of a number.
use Rattle.std.proofs.Common.{◌≡◌, ℕ, ◌+◌, ◌*◌, ◌/◌, ◌%◌, ◌^◌, ◌<◌, ◌≤◌, zero, suc, List, [], ◌∷◌, ◌++◌, length, arith, length-append}
use Rattle.textarea_wrap.proofs.Prelude.{pow-suc, decimal_by_steps, length-decimal-le}
use Rattle.std.specs.Fmt.{decimal}

abbrev HasDigits : ℕ → List ℕ → Type 0
HasDigits n digits = (k : ℕ) → 10 ^ k ≤ n → k < length digits

ten_pos : (k : ℕ) → 0 < 10 ^ k
ten_pos zero = omega arith
ten_pos (suc k) = let before = ten_pos k in omega (arith, pow-suc 10 k)

one_digit : (n : ℕ) → n < 10 → HasDigits n ((48 + n) ∷ [])
one_digit n small zero h = omega arith
one_digit n small (suc k) h = let some = ten_pos k in absurd (omega (arith, pow-suc 10 k))

more_digits : (n : ℕ) (digits : List ℕ) → 10 ≤ n → HasDigits (n / 10) digits → HasDigits n (digits ++ (48 + n % 10) ∷ [])
more_digits n digits large has zero h = omega (arith, length-append digits ((48 + n % 10) ∷ []))
more_digits n digits large has (suc k) h = let shorter = has k (omega (arith, pow-suc 10 k)) in omega (arith, length-append digits ((48 + n % 10) ∷ []))

-- the number of digits, from the powers of ten around the number
pub length-decimal-power : (k n : ℕ) → 10 ^ k ≤ n → n < 10 * 10 ^ k → n < 2 ^ 64 → length (decimal n) ≡ k + 1
length-decimal-power k n low high fits =
    let most = length-decimal-le (suc k) n (omega arith) (omega (arith, pow-suc 10 k)) fits in
    let least = decimal_by_steps HasDigits one_digit more_digits n fits k low in
    omega arith
