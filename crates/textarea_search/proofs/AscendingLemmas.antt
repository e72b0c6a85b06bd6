-- Binary searches in ascending columns, and the columns of a line's matches in order.
use Rattle.std.proofs.Common.{◌≡◌, ℕ, ◌+◌, ◌-◌, ◌≤◌, Bool, true, false, not, cond, List, [], ◌∷◌, ◌++◌, length, get_or, take, drop, reverse, Option, None, Some, IfSome, sym, ap, subst, ◌∙◌, inl, inr, arith, zero-le}
use Rattle.std.specs.Prelude.{All}
use Rattle.std.specs.List.{find, slice_get}
use Rattle.std.specs.List.Sorted.{IsNonDecreasingBy, IsPartitionedBy, IsPartitionPoint}
use Rattle.std.proofs.lemmas.Bool.{cases_Bool}
use Rattle.std.proofs.lemmas.Bool.Decides.{nat_tests}
use Rattle.std.proofs.lemmas.List.{append_assoc, reverse-append, take-append-drop, take_more, get_or-drop, length-drop}
use Rattle.std.proofs.lemmas.List.Elements.{All-head, All-push, All-tail, All-weaker}
use Rattle.std.proofs.lemmas.List.Folds.{find_at, find-append}
use Rattle.std.proofs.lemmas.List.Sums.{position_or_len_is}
use Rattle.std.proofs.lemmas.List.Sorted.{IsNonDecreasingBy-push}
use Rattle.textarea_search.specs.Starts.{along, is_ahead_in_line, is_past}
use Rattle.textarea_search.specs.declared.search.direction.Direction.{Direction}
use Rattle.textarea_search.proofs.ColumnLemmas.{All-along}
use Rattle.textarea_search.proofs.StartLemmas.{find-none, All-reverse}

-- the columns rise
abbrev pub IsAscending : List ℕ → Type 0
IsAscending columns = IsNonDecreasingBy (λ column. column) columns

-- those that are not past a mark are the first ones
not_past : (mark : ℕ) (at : Bool) (x y : ℕ) → x ≤ y → not (is_past mark at y) ≡ true → not (is_past mark at x) ≡ true
not_past mark at x y le e = grind (arith, nat_tests)

pub partitioned_by_past : (mark : ℕ) (at : Bool) (columns : List ℕ) → IsAscending columns → IsPartitionedBy (λ column. not (is_past mark at column)) columns
partitioned_by_past mark at columns up i j d le lt e = not_past mark at (get_or columns i d) (get_or columns j d) (up i j d le lt) e

before : (mark : ℕ) (at : Bool) (x y : ℕ) → x ≤ y → is_past y at mark ≡ true → is_past x at mark ≡ true
before mark at x y le e = grind (arith, nat_tests)

pub partitioned_by_before : (mark : ℕ) (at : Bool) (columns : List ℕ) → IsAscending columns → IsPartitionedBy (λ column. is_past column at mark) columns
partitioned_by_before mark at columns up i j d le lt e = before mark at (get_or columns i d) (get_or columns j d) (up i j d le lt) e

turned : (b : Bool) (c : Bool) → not b ≡ c → b ≡ not c
turned true c e = ap not e
turned false c e = ap not e

-- the first that passes is at the partition point
pub found_at_point : (test : ℕ → Bool) (xs : List ℕ) (i : ℕ) → i ≤ length xs → IsPartitionPoint (λ x. not (test x) ≡ true) (λ x. not (test x) ≡ false) xs i →
    find test xs ≡ slice_get xs i
found_at_point test xs i within point =
    find_at test xs
    ∙ ap (slice_get xs) (position_or_len_is test xs i 0 within
    (λ k lt. turned (test (get_or xs k 0)) true (point.0 k 0 zero-le lt)) (λ lt. turned (test (get_or xs i 0)) false (point.1 i 0 (omega arith) lt)))

-- the last that passes is directly before the partition point
pub none_before_point : (test : ℕ → Bool) (xs : List ℕ) → IsPartitionPoint (λ x. test x ≡ true) (λ x. test x ≡ false) xs 0 → find test (reverse xs) ≡ None
none_before_point test xs point =
    find-none test (reverse xs) (All-reverse (λ x. test x ≡ false) xs (λ k d lt. point.1 k d zero-le lt))

pub found_before_point : (test : ℕ → Bool) (xs : List ℕ) (i : ℕ) (d : ℕ) → i + 1 ≤ length xs → IsPartitionPoint (λ x. test x ≡ true) (λ x. test x ≡ false) xs (i + 1) →
    find test (reverse xs) ≡ Some (get_or xs i d)
found_before_point test xs i d within point =
    let x = get_or xs i d in
    let front = take i xs in
    let back = drop (i + 1) xs in
    let passes : test x ≡ true = point.0 i d zero-le (omega arith) in
    let none : find test (reverse back) ≡ None =
    find-none test (reverse back) (All-reverse (λ y. test y ≡ false) back
    (λ k e lt. subst (λ y. test y ≡ false) (sym (get_or-drop (i + 1) xs k e)) (point.1 (i + 1 + k) e (omega arith) (omega (arith, length-drop (i + 1) xs))))) in
    let parts : xs ≡ (front ++ x ∷ []) ++ back = sym (take-append-drop (i + 1) xs) ∙ ap (λ ys. ys ++ back) (take_more xs i d (omega arith)) in
    ap (λ ys. find test (reverse ys)) parts
    ∙ ap (find test) (reverse-append (front ++ x ∷ []) back)
    ∙ find-append test (reverse back) (reverse (front ++ x ∷ []))
    ∙ rw none (ap (find test) (reverse-append front (x ∷ [])) ∙ ap (λ b. cond b (Some x) (find test (reverse front))) passes)

-- a fact of each element is one of the first that passes
pub find-All : (P : ℕ → Type 0) (test : ℕ → Bool) (xs : List ℕ) → All P xs → IfSome (find test xs) P
find-All P test [] all = tt
find-All P test (x ∷ xs) all =
    elim (cases_Bool (test x)) [
      | inl passes ↦ rw passes (All-head P x xs all)
      | inr fails ↦ rw fails (find-All P test xs (All-tail P x xs all))
    ]

pub found_within : (limit : ℕ) (direction : Direction) (column : ℕ) (at : Bool) (columns : List ℕ) (result : Option ℕ) → All (λ c. c ≤ limit) columns →
    result ≡ find (is_ahead_in_line direction column at) (along direction columns) → IfSome result (λ c. c ≤ limit)
found_within limit direction column at columns result all e =
    subst (λ o. IfSome o (λ c. c ≤ limit)) (sym e)
    (find-All (λ c. c ≤ limit) (is_ahead_in_line direction column at) (along direction columns) (All-along (λ c. c ≤ limit) direction columns all))

-- ---- one more column, which is not before the others

pub ascending_more : (columns : List ℕ) (last column : ℕ) → All (λ c. c ≤ last) columns → last ≤ column → IsAscending columns → IsAscending (columns ++ column ∷ [])
ascending_more columns last column all le up =
    IsNonDecreasingBy-push (λ c. c) columns column up
    (λ d some. let below = all (length columns - 1) d (omega arith) in omega arith)

pub below_more : (columns : List ℕ) (last column : ℕ) → All (λ c. c ≤ last) columns → last ≤ column → All (λ c. c ≤ column) (columns ++ column ∷ [])
below_more columns last column all le =
    All-push (λ c. c ≤ column) columns column (All-weaker (λ c. c ≤ last) (λ c. c ≤ column) (λ c h. omega arith) columns all) (omega arith)

-- the columns so far and those of the matches that are left, after the first of these
pub listed_more : (columns now left rest all : List ℕ) (column : ℕ) → now ≡ columns ++ column ∷ [] → left ≡ column ∷ rest → columns ++ left ≡ all → now ++ rest ≡ all
listed_more columns now left rest all column pushed first before =
    ap (λ l. l ++ rest) pushed ∙ append_assoc columns (column ∷ []) rest ∙ sym (ap (λ l. columns ++ l) first) ∙ before
