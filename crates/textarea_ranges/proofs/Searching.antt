-- Binary searches in ranges that are apart, and what the range that is found decides.
use Rattle.std.proofs.Common.{◌≡◌, ◌≤◌, ◌<◌, ℕ, ◌⊎◌, inl, inr, Bool, true, false, cond, not, List, [], ◌∷◌, length, take, get_or, find, Option, Some, None, All, AllPairs, refl, sym, ap, subst, ◌∙◌, arith, zero-le}
use Rattle.textarea_ranges.specs.Prelude.{Place, IsUpTo, is_up_to, AtomicRange, AtomicDeleteDirection, AreApart, AreInOrder, AreValid, has_ended, is_inside, is_range_at_place, is_range_before}
use Rattle.textarea_ranges.specs.Prelude.{moved_by, passes_end, range_around, range_at_place, range_end, range_start, slice_get, AllByRecursion, IsPartitionedBy, IsPartitionPoint}
use Rattle.std.proofs.lemmas.Bool.{cases_Bool, cases_lt, cond-true, cond-false}
use Rattle.std.proofs.lemmas.Bool.Decides.{nat_tests}
use Rattle.std.proofs.lemmas.List.{get_or-take, length-take-le}
use Rattle.std.proofs.lemmas.List.Folds.{find_at}
use Rattle.std.proofs.lemmas.List.Sums.{position_or_len_is}
use Rattle.textarea_data.specs.declared.range.AtomicDeleteDirection.TheVariants.{Backward as DeleteBackward, Forward as DeleteForward}
use Rattle.textarea_util.proofs.Alls.{all_weaker}
use Rattle.textarea_ranges.proofs.Lists.{AllPairs-later, EachLater, later-AllPairs}
use Rattle.textarea_ranges.proofs.OrderLemmas.{sorted-in_order}
use Rattle.textarea_ranges.proofs.Sorts.{NotBefore}

-- ---- valid ranges in order are apart

pub up_to-not_before : (one other : AtomicRange) → is_range_before other one ≡ false → IsUpTo (range_start one) (range_start other)
up_to-not_before one other e = (grind (arith, nat_tests), λ same. grind (arith, nat_tests))

ends_before : (one other : AtomicRange) → one.start_col < one.end_col → other.start_col < other.end_col → IsUpTo (range_start one) (range_start other) →
    (one.row ≡ other.row → (one.end_col ≤ other.start_col) ⊎ (other.end_col ≤ one.start_col)) → IsUpTo (range_end one) (range_start other)
ends_before one other some more up apart =
    (up.0, λ same. elim (apart same) [ inl before ↦ before | inr after ↦ absurd (omega (arith, up.1 same)) ])

pub AreApart-valid : (rows : List (List ℕ)) (ranges : List AtomicRange) → AreValid rows ranges → AreInOrder ranges → AreApart ranges
AreApart-valid rows ranges valid ordered =
    let later : AllPairs (NotBefore is_range_before) ranges =
    AllPairs-later (NotBefore is_range_before) ranges (subst (EachLater (NotBefore is_range_before)) ordered (sorted-in_order ranges)) in
    record {
      ordered = λ k d within. let some = (valid.components k d within).1 in omega (arith, some);
      apart = λ i j d before within.
          let here : i < length ranges = omega arith in
          ends_before (get_or ranges i d) (get_or ranges j d) (valid.components i d here).1 (valid.components j d within).1
          (up_to-not_before (get_or ranges i d) (get_or ranges j d) (later i j d before within)) (valid.disjoint i j d before within);
    }

-- ---- the ranges that have ended are the first ones

ended_before : (place : Place) (at_place : Bool) (one other : AtomicRange) → IsUpTo (range_end one) (range_start other) → other.start_col ≤ other.end_col →
    has_ended place at_place other ≡ true → has_ended place at_place one ≡ true
ended_before place true one other up ordered e = grind (arith, nat_tests)
ended_before place false one other up ordered e = grind (arith, nat_tests)

pub partitioned : (place : Place) (at_place : Bool) (ranges : List AtomicRange) → AreApart ranges → IsPartitionedBy (has_ended place at_place) ranges
partitioned place at_place ranges h i j d le within ended =
    elim (cases_lt i j) [
      | inl before ↦ ended_before place at_place (get_or ranges i d) (get_or ranges j d) (h.apart i j d before within) (h.ordered j d within) ended
      | inr from ↦
          let same : j ≡ i = omega arith in
          subst (λ (n : ℕ). has_ended place at_place (get_or ranges n d) ≡ true) same ended
    ]

nothing : AtomicRange
nothing = record { row = 0; start_col = 0; end_col = 0 }

-- the first element that fails is at the partition point
pub found_at_point : (p : AtomicRange → Bool) (xs : List AtomicRange) (i : ℕ) → i ≤ length xs → IsPartitionPoint (λ x. p x ≡ true) (λ x. p x ≡ false) xs i →
    find (λ x. not (p x)) xs ≡ slice_get xs i
found_at_point p xs i within point =
    find_at (λ x. not (p x)) xs
    ∙ ap (slice_get xs) (position_or_len_is (λ x. not (p x)) xs i nothing within
    (λ k lt. ap not (point.0 k nothing zero-le lt)) (λ lt. ap not (point.1 i nothing (omega arith) lt)))

pub front_passes : (P : AtomicRange → Type 0) (xs : List AtomicRange) (i : ℕ) → i ≤ length xs → ((k : ℕ) (d : AtomicRange) → 0 ≤ k → k < i → P (get_or xs k d)) →
    All P (take i xs)
front_passes P xs i within h k d lt =
    let below : k < i = omega (arith, length-take-le i xs within) in
    subst P (sym (get_or-take i xs k d below)) (h k d zero-le below)

-- ---- the first range that has not ended decides the search

-- an element that passes the one test and then the other
abbrev pub that_passes : {X : Type 0} → (X → Bool) → Option X → Option X
that_passes test None = None
that_passes test (Some x) = cond (test x) (Some x) None

pub find-none_later : {X : Type 0} (test : X → Bool) (xs : List X) → AllByRecursion (λ x. test x ≡ false) xs → find test xs ≡ None
find-none_later test [] all = refl
find-none_later test (x ∷ xs) all = cond-false (test x) (Some x) (find test xs) all.0 ∙ find-none_later test xs all.1

-- no element that has ended passes the test, nor does one that is later than one that has not
pub first_decides : {X : Type 0} (test ended : X → Bool) (R : X → X → Type 0) → ((x : X) → ended x ≡ true → test x ≡ false) →
    ((x y : X) → ended x ≡ false → R x y → test y ≡ false) → (xs : List X) → EachLater R xs →
    find test xs ≡ that_passes test (find (λ x. not (ended x)) xs)
first_decides test ended R past later [] h = refl
first_decides {X} test ended R past later (x ∷ xs) h =
    elim (cases_Bool (ended x)) [
      | inl has ↦
          cond-false (test x) (Some x) (find test xs) (past x has)
          ∙ first_decides test ended R past later xs h.1
          ∙ ap (that_passes test) (sym (cond-false (not (ended x)) (Some x) (find (λ (y : X). not (ended y)) xs) (ap not has)))
      | inr left ↦
          ap (cond (test x) (Some x)) (find-none_later test xs (all_weaker (R x) (λ y. test y ≡ false) (λ y r. later x y left r) xs h.0))
          ∙ ap (that_passes test) (sym (cond-true (not (ended x)) (Some x) (find (λ (y : X). not (ended y)) xs) (ap not left)))
    ]

-- each range ends at or before the start of the later one
abbrev IsApart : AtomicRange → AtomicRange → Type 0
IsApart one other = IsUpTo (range_end one) (range_start other)

ended_not_around : (place : Place) (range : AtomicRange) → has_ended place true range ≡ true → is_inside place range ≡ false
ended_not_around place range e = grind (arith, nat_tests)

later_not_around : (place : Place) (one other : AtomicRange) → has_ended place true one ≡ false → IsApart one other → is_inside place other ≡ false
later_not_around place one other e up = grind (arith, nat_tests)

pub around_decided : (ranges : List AtomicRange) (place : Place) → AreApart ranges →
    range_around ranges place ≡ that_passes (is_inside place) (find (λ range. not (has_ended place true range)) ranges)
around_decided ranges place h =
    first_decides (is_inside place) (has_ended place true) IsApart (ended_not_around place) (λ one other e up. later_not_around place one other e up) ranges
    (later-AllPairs IsApart ranges h.apart)

ended_not_at : (place : Place) (direction : AtomicDeleteDirection) (range : AtomicRange) → has_ended place (passes_end direction) range ≡ true →
    is_range_at_place place direction range ≡ false
ended_not_at place DeleteBackward range e = grind (arith, nat_tests)
ended_not_at place DeleteForward range e = grind (arith, nat_tests)

later_not_at : (place : Place) (direction : AtomicDeleteDirection) (one other : AtomicRange) → has_ended place (passes_end direction) one ≡ false → IsApart one other →
    is_range_at_place place direction other ≡ false
later_not_at place DeleteBackward one other e up = grind (arith, nat_tests)
later_not_at place DeleteForward one other e up = grind (arith, nat_tests)

pub at_place_decided : (ranges : List AtomicRange) (place : Place) (direction : AtomicDeleteDirection) → AreApart ranges →
    range_at_place ranges place direction ≡ that_passes (is_range_at_place place direction) (find (λ range. not (has_ended place (passes_end direction) range)) ranges)
at_place_decided ranges place direction h =
    first_decides (is_range_at_place place direction) (has_ended place (passes_end direction)) IsApart (ended_not_at place direction)
    (λ one other e up. later_not_at place direction one other e up) ranges (later-AllPairs IsApart ranges h.apart)

-- ---- ranges that a change leaves as they are

-- one that ends at or before its start
pub stays_before : (start old new : Place) (range : AtomicRange) → has_ended start true range ≡ true → moved_by start old new range ≡ Some range
stays_before start old new range e = cond-true (is_up_to (range_end range) start) (Some range) _ e
