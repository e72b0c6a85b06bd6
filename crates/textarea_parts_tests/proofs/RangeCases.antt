-- Worked cases of the definitions, each by computing.
use Rattle.std.proofs.Common.{◌≡◌, ℕ, true, false, List, [], ◌∷◌, refl, Some, None}
use Rattle.textarea_ranges.specs.Prelude.{Symbol, Break, Character, Splice, AtomicRange, RejectedAtomicRange, Backward, Forward, AtomicRangeRejectReason, Empty, RowOutOfBounds}
use Rattle.textarea_ranges.specs.Prelude.{ColumnOutOfBounds, OverlapsPrevious, range_at_place, moved_out, widened, moved_ranges, in_order, rejected_of}
use Rattle.textarea_data.specs.declared.range.AtomicDeleteDirection.TheVariants.{Backward as DeleteBackward, Forward as DeleteForward}

abbrev pub range_of : ℕ → ℕ → ℕ → AtomicRange
range_of row start end = record { row = row; start_col = start; end_col = end }

abbrev pub rejected : AtomicRange → AtomicRangeRejectReason → RejectedAtomicRange
rejected range reason = record { range = range; reason = reason }

-- ---- the line `abc`

abbrev pub abc : List (List ℕ)
abc = (97 ∷ 98 ∷ 99 ∷ []) ∷ []

-- each reason, once
abbrev pub tried : List AtomicRange
tried = range_of 0 2 4 ∷ range_of 1 0 1 ∷ range_of 0 1 1 ∷ range_of 0 0 2 ∷ range_of 0 1 3 ∷ []

pub order_case : in_order tried ≡ range_of 0 0 2 ∷ range_of 0 1 1 ∷ range_of 0 1 3 ∷ range_of 0 2 4 ∷ range_of 1 0 1 ∷ []
order_case = refl

pub rejected_case : rejected_of abc (in_order tried) ≡ rejected (range_of 0 1 1) Empty ∷ rejected (range_of 0 1 3) OverlapsPrevious ∷ rejected (range_of 0 2 4) ColumnOutOfBounds ∷ rejected (range_of 1 0 1) RowOutOfBounds ∷ []
rejected_case = refl

-- an empty range is rejected as empty, even if its row doesn't exist
pub empty_first_case : rejected_of abc (range_of 7 5 5 ∷ []) ≡ rejected (range_of 7 5 5) Empty ∷ []
empty_first_case = refl

-- it starts after its end in a row that doesn't exist
pub row_second_case : rejected_of abc (range_of 7 5 4 ∷ []) ≡ rejected (range_of 7 5 4) RowOutOfBounds ∷ []
row_second_case = refl

-- the ranges of one row may touch
pub touching_case : rejected_of abc (range_of 0 0 1 ∷ range_of 0 1 3 ∷ []) ≡ []
touching_case = refl

-- a rejected range rejects no others: 1..3 overlaps 0..2, and 2..3 only that one
pub after_rejected_case : rejected_of abc (range_of 0 0 2 ∷ range_of 0 1 3 ∷ range_of 0 2 3 ∷ []) ≡ rejected (range_of 0 1 3) OverlapsPrevious ∷ []
after_rejected_case = refl

-- ranges with the same start keep their order
pub tie_case : in_order (range_of 0 1 3 ∷ range_of 0 0 1 ∷ range_of 0 1 2 ∷ []) ≡ range_of 0 0 1 ∷ range_of 0 1 3 ∷ range_of 0 1 2 ∷ []
tie_case = refl

-- ---- the line `Send [[a]] now`, whose `[[a]]` is a range

abbrev pub bracket : List AtomicRange
bracket = range_of 0 5 10 ∷ []

pub moved_cases : (moved_out bracket (0, 7) Backward ∷ moved_out bracket (0, 7) Forward ∷ moved_out bracket (0, 5) Forward ∷ moved_out bracket (1, 7) Forward ∷ []) ≡ (0, 5) ∷ (0, 10) ∷ (0, 5) ∷ (1, 7) ∷ []
moved_cases = refl

pub range_at_place_cases : (range_at_place bracket (0, 10) DeleteBackward ∷ range_at_place bracket (0, 5) DeleteBackward ∷ range_at_place bracket
    (0, 5) DeleteForward ∷ range_at_place bracket (0, 10) DeleteForward ∷ []) ≡ Some (range_of 0 5 10) ∷ None ∷ Some (range_of 0 5 10) ∷ None ∷ []
range_at_place_cases = refl

pub widened_cases : (widened (range_of 0 5 10 ∷ range_of 1 0 4 ∷ []) (0, 7) (1, 2) ∷ widened bracket (0, 6) (0, 7) ∷ []) ≡ ((0, 5), (1, 4)) ∷ ((0, 5), (0, 10)) ∷ []
widened_cases = refl

-- ---- ranges that move with their text

abbrev pub insertion : ℕ → ℕ → List Symbol → Splice
insertion row column symbols = record { place = (row, column); symbols = symbols; inserts = true }

abbrev pub removal : ℕ → ℕ → List Symbol → Splice
removal row column symbols = record { place = (row, column); symbols = symbols; inserts = false }

-- `oh` and a break before `hi [[a]] x`: the range is in the row below, at the same columns
pub break_before_case : moved_ranges (range_of 0 3 8 ∷ []) (insertion 0 0 (Character 111 ∷ Character 104 ∷ Break ∷ [])) ≡ range_of 1 3 8 ∷ []
unfolding moved_ranges
break_before_case = refl

-- a break inside the line: the range after it starts its row
pub break_inside_case : moved_ranges (range_of 0 3 8 ∷ range_of 1 0 2 ∷ []) (insertion 0 3 (Break ∷ [])) ≡ range_of 1 0 5 ∷ range_of 2 0 2 ∷ []
unfolding moved_ranges
break_inside_case = refl

-- a character between two ranges that touch: the first stays, the second moves
pub between_case : moved_ranges (range_of 0 0 5 ∷ range_of 0 5 10 ∷ []) (insertion 0 5 (Character 45 ∷ [])) ≡ range_of 0 0 5 ∷ range_of 0 6 11 ∷ []
unfolding moved_ranges
between_case = refl

-- an insertion strictly inside a range drops it
pub inside_case : moved_ranges (range_of 0 0 5 ∷ range_of 0 5 10 ∷ []) (insertion 0 6 (Character 45 ∷ [])) ≡ range_of 0 0 5 ∷ []
unfolding moved_ranges
inside_case = refl

-- a break is removed: the second line's range is after the first line's two characters
pub joined_case : moved_ranges (range_of 0 0 2 ∷ range_of 1 1 3 ∷ range_of 2 0 4 ∷ []) (removal 0 2 (Break ∷ [])) ≡ range_of 0 0 2 ∷ range_of 0 3 5 ∷ range_of 1 0 4 ∷ []
unfolding moved_ranges
joined_case = refl

-- a range removed whole, or that loses a character, is dropped; one that is only touched stays
pub removed_case : moved_ranges (range_of 0 0 2 ∷ range_of 0 2 4 ∷ range_of 0 4 7 ∷ range_of 0 7 9 ∷ []) (removal 0 2 (Character 97 ∷ Character 98 ∷ Character 99 ∷ [])) ≡ range_of 0 0 2 ∷ range_of 0 4 6 ∷ []
unfolding moved_ranges
removed_case = refl
