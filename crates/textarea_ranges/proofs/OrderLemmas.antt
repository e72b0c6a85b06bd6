-- Ranges in order: the stable sort by row and start.
use Rattle.std.proofs.Common.{◌≡◌, List, [], ◌∷◌, cond, filter, refl, sym, ap, ◌∙◌, inl, inr, IsPermutation}
use Rattle.std.proofs.lemmas.Bool.{cases_Bool, cond-true, cond-false}
use Rattle.std.proofs.lemmas.List.MinMax.{ranks_by}
use Rattle.std.proofs.lemmas.List.Sorted.{IsPermutation-cons, IsPermutation-middle, IsPermutation-refl, IsPermutation-trans}
use Rattle.textarea_ranges.specs.Prelude.{AllByRecursion, AtomicRange, AreInOrder, IsInOrder, in_order, is_range_before, insert_among, IsStrictWeakOrder, nat_cmp_total, on_total, then_total, IsStableBy, ties}
use Rattle.textarea_ranges.proofs.Lists.{EachLater}
use Rattle.textarea_ranges.proofs.Sorts.{NotBefore, IsSortedBy-later, each_from_put, each_put, later-IsSortedBy, later_from_put, later_put, put, same_sorted, sorted_put, stable_put}

pub order_of_ranges : IsStrictWeakOrder is_range_before
order_of_ranges = ranks_by (then_total (on_total (λ (r : AtomicRange). r.row) nat_cmp_total) (on_total (λ (r : AtomicRange). r.start_col) nat_cmp_total)) (λ r. r)

pub insert_among-put : (range : AtomicRange) (ranges : List AtomicRange) → insert_among range ranges ≡ put is_range_before range ranges
insert_among-put range [] = refl
insert_among-put range (first ∷ rest) = ap (λ (l : List AtomicRange). cond (is_range_before first range) (first ∷ l) (range ∷ first ∷ rest)) (insert_among-put range rest)

pub sorted-in_order : (ranges : List AtomicRange) → EachLater (NotBefore is_range_before) (in_order ranges)
sorted-in_order [] = tt
sorted-in_order (range ∷ rest) = rw (insert_among-put range (in_order rest)) (sorted_put is_range_before order_of_ranges range (in_order rest) (sorted-in_order rest))

pub stable-in_order : (ranges : List AtomicRange) → IsStableBy is_range_before ranges (in_order ranges)
stable-in_order [] z = refl
stable-in_order (range ∷ rest) z =
    ap (filter (ties is_range_before z)) (insert_among-put range (in_order rest)) ∙ stable_put is_range_before order_of_ranges range (in_order rest) z
    ∙ ap (λ (l : List AtomicRange). cond (ties is_range_before z range) (range ∷ l) l) (stable-in_order rest z)

same_put : (range : AtomicRange) (ranges : List AtomicRange) → IsPermutation (range ∷ ranges) (insert_among range ranges)
same_put range [] = IsPermutation-refl (range ∷ [])
same_put range (first ∷ rest) =
    elim (cases_Bool (is_range_before first range)) [
      | inl past ↦
          let exchanged = IsPermutation-middle (range ∷ []) first rest in
          let put = IsPermutation-cons first (range ∷ rest) (insert_among range rest) (same_put range rest) in
          rw (cond-true (is_range_before first range) (first ∷ insert_among range rest) (range ∷ first ∷ rest) past) (IsPermutation-trans _ (first ∷ range ∷ rest) _ exchanged put)
      | inr here ↦ rw (cond-false (is_range_before first range) (first ∷ insert_among range rest) (range ∷ first ∷ rest) here) (IsPermutation-refl (range ∷ first ∷ rest))
    ]

pub same-in_order : (ranges : List AtomicRange) → IsPermutation ranges (in_order ranges)
same-in_order [] = IsPermutation-refl []
same-in_order (range ∷ rest) = IsPermutation-trans (range ∷ rest) (range ∷ in_order rest) (insert_among range (in_order rest)) (IsPermutation-cons range rest (in_order rest) (same-in_order rest)) (same_put range (in_order rest))

-- the standard library's sort gives the same list
pub in_order-sorted : (ranges ordered : List AtomicRange) → EachLater (NotBefore is_range_before) ordered → IsStableBy is_range_before ranges ordered → ordered ≡ in_order ranges
in_order-sorted ranges ordered sorted stable =
    same_sorted is_range_before order_of_ranges ordered (in_order ranges) sorted (sorted-in_order ranges) (λ z. stable-in_order ranges z ∙ sym (stable z))

pub IsInOrder-in_order : (ranges : List AtomicRange) → IsInOrder ranges (in_order ranges)
IsInOrder-in_order ranges = record { same = same-in_order ranges; sorted = IsSortedBy-later is_range_before (in_order ranges) (sorted-in_order ranges); stable = stable-in_order ranges }

pub in_order-IsInOrder : (ranges ordered : List AtomicRange) → IsInOrder ranges ordered → ordered ≡ in_order ranges
in_order-IsInOrder ranges ordered h = in_order-sorted ranges ordered (later-IsSortedBy is_range_before order_of_ranges ordered h.sorted) h.stable

-- ordered ranges stay the same
pub AreInOrder-in_order : (ranges : List AtomicRange) → AreInOrder (in_order ranges)
AreInOrder-in_order ranges = sym (in_order-sorted (in_order ranges) (in_order ranges) (sorted-in_order ranges) (λ z. refl))

-- ---- what doesn't depend on the order

pub each-in_order : (P : AtomicRange → Type 0) (ranges : List AtomicRange) → AllByRecursion P ranges → AllByRecursion P (in_order ranges)
each-in_order P [] all = tt
each-in_order P (range ∷ rest) all = rw (insert_among-put range (in_order rest)) (each_put P is_range_before range (in_order rest) all.0 (each-in_order P rest all.1))

pub each_from_in_order : (P : AtomicRange → Type 0) (ranges : List AtomicRange) → AllByRecursion P (in_order ranges) → AllByRecursion P ranges
each_from_in_order P [] all = tt
each_from_in_order P (range ∷ rest) all =
    let components = each_from_put P is_range_before range (in_order rest) (rw (insert_among-put range (in_order rest)) at all) in
    (components.0, each_from_in_order P rest components.1)

pub later-in_order : (R : AtomicRange → AtomicRange → Type 0) → ((x y : AtomicRange) → R x y → R y x) → (ranges : List AtomicRange) → EachLater R ranges → EachLater R (in_order ranges)
later-in_order R flip [] later = tt
later-in_order R flip (range ∷ rest) later =
    rw (insert_among-put range (in_order rest)) (later_put R flip is_range_before range (in_order rest) (each-in_order (R range) rest later.0, later-in_order R flip rest later.1))

pub later_from_in_order : (R : AtomicRange → AtomicRange → Type 0) → ((x y : AtomicRange) → R x y → R y x) → (ranges : List AtomicRange) → EachLater R (in_order ranges) → EachLater R ranges
later_from_in_order R flip [] later = tt
later_from_in_order R flip (range ∷ rest) later =
    let components = later_from_put R flip is_range_before range (in_order rest) (rw (insert_among-put range (in_order rest)) at later) in
    (each_from_in_order (R range) rest components.0, later_from_in_order R flip rest components.1)
