-- Numbers stored as items, with a pending difference from one index on.
use Rattle.std.proofs.lemmas.Grind.{common_steps}
use Rattle.std.proofs.Common.{◌≡◌, ℕ, zero, suc, ◌+◌, ◌-◌, ◌<◌, ◌≤◌, List, [], ◌∷◌, length, get_or, sym, ap, refl, ◌∙◌, arith}
use Rattle.std.proofs.lemmas.Bool.{cases_lt}
use Rattle.std.proofs.lemmas.Grind.{same_number_lists}
use Rattle.textarea_blocks.specs.Shifted.{AreShifted, CanShift, shifted_numbers}

-- ---- the numbers one by one

pub length-turned : (from less more : ℕ) (items : List ℕ) → length (shifted_numbers from less more items) ≡ length items
length-turned from less more [] = refl
length-turned zero less more (item ∷ items) = ap suc (length-turned zero less more items)
length-turned (suc from) less more (item ∷ items) = ap suc (length-turned from less more items)

pub turned_above : (from less more : ℕ) (items : List ℕ) (k : ℕ) → k < from → get_or (shifted_numbers from less more items) k 0 ≡ get_or items k 0
turned_above from less more [] k above = refl
turned_above zero less more (item ∷ items) k above = absurd (omega (arith, above))
turned_above (suc from) less more (item ∷ items) zero above = refl
turned_above (suc from) less more (item ∷ items) (suc k) above =
    turned_above from less more items k (omega (arith, above))

pub shifted_after : (from less more : ℕ) (items : List ℕ) (k : ℕ) → from ≤ k → k < length items → get_or (shifted_numbers from less more items) k 0 ≡ get_or items k 0 + more - less
shifted_after from less more [] k after there = absurd (omega (arith, there))
shifted_after zero less more (item ∷ items) zero after there = refl
shifted_after zero less more (item ∷ items) (suc k) after there =
    shifted_after zero less more items k (omega arith) (omega (arith, there))
shifted_after (suc from) less more (item ∷ items) zero after there = absurd (omega (arith, after))
shifted_after (suc from) less more (item ∷ items) (suc k) after there =
    shifted_after from less more items k (omega (arith, after)) (omega (arith, there))

-- ---- a difference that is added to the items

-- without a difference the numbers are the items
pub not_turned : (from : ℕ) (items : List ℕ) → shifted_numbers from 0 0 items ≡ items
not_turned from [] = refl
not_turned zero (item ∷ items) = grind (arith, common_steps, not_turned zero items)
not_turned (suc from) (item ∷ items) = ap (λ t. item ∷ t) (not_turned from items)

-- once the difference is added, the items are the numbers
pub settled : (items now : List ℕ) (from less more : ℕ) → AreShifted items now from less more → now ≡ shifted_numbers from less more items
settled items now from less more turned =
    grind (arith, common_steps, same_number_lists, length-turned from less more items, cases_lt, turned_above, shifted_after)

-- ---- a second difference from the same index on

-- the numbers with both differences: `l` and `m` combine them
pub record AreJoined (items old : List ℕ) (from gone come l m : ℕ) : Type 0 where
  pub can : CanShift items from l m
  pub shifted : AreShifted old (shifted_numbers from l m items) from gone come

pub joined :
    (items old : List ℕ) (from less more gone come l m : ℕ) → shifted_numbers from less more items ≡ old → CanShift items from less more
    → CanShift old from gone come → l ≡ less + gone - (more + come) → m ≡ more + come - (less + gone) → AreJoined items old from gone come l m
joined items old from less more gone come l m is can more_can l_is m_is =
    let size : length items ≡ length old = sym (length-turned from less more items) ∙ ap length is in
    record {
      can = record {
        enough = λ k after there.
            omega (arith, l_is, m_is, can.enough k after there, more_can.enough k after (omega (arith, there, size)), shifted_after from less more items k after there, ap (λ t. get_or t k 0) is);
        small = λ k after there.
            omega (arith, l_is, m_is, can.enough k after there, can.small k after there, more_can.small k after (omega (arith, there, size)), shifted_after from less more items k after there, ap (λ t. get_or t k 0) is);
      };
      shifted = record {
        len = length-turned from l m items ∙ size;
        above = λ k before.
            turned_above from l m items k before ∙ sym (turned_above from less more items k before) ∙ ap (λ t. get_or t k 0) is;
        moved = λ k after there.
            let inside : k < length items = omega (arith, there, size) in
            omega (arith, l_is, m_is, can.enough k after inside, more_can.enough k after there, shifted_after from less more items k after inside, ap (λ t. get_or t k 0) is, shifted_after from l m items k after inside);
      };
    }
