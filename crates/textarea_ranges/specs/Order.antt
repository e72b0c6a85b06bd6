-- The order of atomic ranges: by row, then by start.
use Rattle.std.specs.Prelude.{◌≡◌, Bool, List, [], ◌∷◌, if◌then◌else◌}
use Rattle.std.specs.Ordering.{is_lt, nat_cmp, ordering_then}
use Rattle.std.specs.List.Sorted.{IsPermutation, IsSortedBy, IsStableBy}
use Rattle.textarea_data.specs.declared.range.AtomicRange.{AtomicRange}

-- the one range has the smaller row, or the same row and the smaller start
abbrev pub is_range_before : AtomicRange → AtomicRange → Bool
is_range_before one other =
    is_lt (ordering_then (nat_cmp one.row other.row) (nat_cmp one.start_col other.start_col))

-- ordered ranges with one more: after those that come before it, in front of those with its start
abbrev pub insert_among : AtomicRange → List AtomicRange → List AtomicRange
insert_among range [] = range ∷ []
insert_among range (first ∷ rest) =
    if is_range_before first range then first ∷ insert_among range rest else range ∷ first ∷ rest

-- the ranges in order; those with the same start keep their order
abbrev pub in_order : List AtomicRange → List AtomicRange
in_order [] = []
in_order (range ∷ rest) = insert_among range (in_order rest)

abbrev pub AreInOrder : List AtomicRange → Type 0
AreInOrder ranges = in_order ranges ≡ ranges

-- a list with the same ranges, in order, in which ranges with the same start keep their order
pub record IsInOrder (ranges ordered : List AtomicRange) : Type 0 where
  pub same : IsPermutation ranges ordered
  pub sorted : IsSortedBy is_range_before ordered
  pub stable : IsStableBy is_range_before ranges ordered
