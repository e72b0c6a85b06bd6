-- Numbers of units of characters.
use Rattle.std.proofs.Common.{◌≡◌, ◌∙◌, ℕ, ◌+◌, ◌*◌, ◌<◌, ◌≤◌, nat_lt, Bool, true, false, if◌then◌else◌, List, [], ◌∷◌, ◌++◌, length, encode_utf8, encode_utf8_all, ap, refl, sym, arith, inl, inr}
use Rattle.std.proofs.lemmas.Bool.{cases_lt}
use Rattle.std.proofs.lemmas.Bool.Decides.{nat_tests}
use Rattle.std.proofs.lemmas.List.{length-append}
use Rattle.std.proofs.lemmas.Str.{length-encode}
use Rattle.textarea_document.specs.Changes.{unit_count, width_in}
use Rattle.textarea_document.specs.Prelude.{ChangeUnit, Bytes, Utf16}

-- the number of bytes of characters
pub unit_count-bytes : (cs : List ℕ) → length (encode_utf8_all cs) ≡ unit_count Bytes cs
unit_count-bytes [] = refl
unit_count-bytes (c ∷ cs) = omega (arith, length-append (encode_utf8 c) (encode_utf8_all cs), length-encode c, unit_count-bytes cs)

-- what `len_utf16` returns
pub width_is : (c n : ℕ) → (c < 0x1_0000 → n ≡ 1) → (0x1_0000 ≤ c → n ≡ 2) → n ≡ width_in Utf16 c
width_is c n below above =
    elim (cases_lt c 0x1_0000) [
      | inl low ↦
          let test : nat_lt c 0x1_0000 ≡ true = grind (arith, nat_tests) in
          below low ∙ ap (λ (b : Bool). if b then 1 else 2) (sym test)
      | inr high ↦
          let test : nat_lt c 0x1_0000 ≡ false = grind (arith, nat_tests) in
          above high ∙ ap (λ (b : Bool). if b then 1 else 2) (sym test)
    ]

pub width_bound : (c : ℕ) → width_in Utf16 c ≤ 2
width_bound c = by (nat_lt c 0x1_0000)
  where
    by : (b : Bool) → (if b then 1 else 2) ≤ 2
    by true = omega arith
    by false = omega arith

-- one character more
pub unit_count-push : (unit : ChangeUnit) (cs : List ℕ) (c : ℕ) → unit_count unit (cs ++ c ∷ []) ≡ unit_count unit cs + width_in unit c
unit_count-push unit [] c = omega arith
unit_count-push unit (d ∷ cs) c = omega (arith, unit_count-push unit cs c)

pub unit_count-bound : (cs : List ℕ) → unit_count Utf16 cs ≤ 2 * length cs
unit_count-bound [] = omega arith
unit_count-bound (c ∷ cs) = omega (arith, width_bound c, unit_count-bound cs)
