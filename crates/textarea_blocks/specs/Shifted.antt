-- Numbers stored as items, with a pending difference from one index on.
use Rattle.std.specs.Prelude.{◌≡◌, ℕ, zero, suc, ◌+◌, ◌-◌, ◌^◌, ◌<◌, ◌≤◌, List, [], ◌∷◌, length, get_or}

-- the numbers, and how many more fit without allocation
pub record NumbersView : Type 0 where
  pub numbers : List ℕ
  pub spare : ℕ

-- The numbers that the items represent. Those before the index `from` are the items. From there on
-- a number is its item plus `more`, minus `less`.
abbrev pub shifted_numbers : ℕ → ℕ → ℕ → List ℕ → List ℕ
shifted_numbers from less more [] = []
shifted_numbers zero less more (item ∷ items) = (item + more - less) ∷ shifted_numbers zero less more items
shifted_numbers (suc from) less more (item ∷ items) = item ∷ shifted_numbers from less more items

-- `more` can be added to each item from the index `from` on and `less` subtracted: the sum fits a
-- machine word and is at least `less`.
pub record CanShift (items : List ℕ) (from less more : ℕ) : Type 0 where
  pub enough : (k : ℕ) → from ≤ k → k < length items → less ≤ get_or items k 0 + more
  pub small : (k : ℕ) → from ≤ k → k < length items → get_or items k 0 + more < 2 ^ 64

-- That is done: `now` are the items with it, and those above the index are unchanged.
pub record AreShifted (items now : List ℕ) (from less more : ℕ) : Type 0 where
  pub len : length now ≡ length items
  pub above : (k : ℕ) → k < from → get_or now k 0 ≡ get_or items k 0
  pub moved : (k : ℕ) → from ≤ k → k < length items → get_or now k 0 + less ≡ get_or items k 0 + more
