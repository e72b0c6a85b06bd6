-- Which ranges of a list are rejected, and why.
use Rattle.std.specs.Prelude.{◌≡◌, ◌≢◌, ℕ, ◌==◌, nat_lt, nat_le, ◌||◌, List, [], ◌∷◌, ◌++◌, length, Option, Some, None, if◌then◌else◌}
use Rattle.textarea_data.specs.declared.range.AtomicRange.{AtomicRange}
use Rattle.textarea_data.specs.declared.range.RejectedAtomicRange.{RejectedAtomicRange}
use Rattle.textarea_data.specs.declared.range.AtomicRangeRejectReason.{AtomicRangeRejectReason}
use Rattle.textarea_data.specs.declared.range.AtomicRangeRejectReason.TheVariants.{Empty, RowOutOfBounds, ColumnOutOfBounds, OverlapsPrevious}
use Rattle.textarea_text.specs.Place.{line_of}
use Rattle.textarea_ranges.specs.Order.{AreInOrder, in_order}
use Rattle.textarea_ranges.specs.Valid.{AreValid}

-- the first free column of the row: the end of the last valid range if that is in it, else 0
abbrev pub free_from : Option AtomicRange → ℕ → ℕ
free_from None row = 0
free_from (Some last) row = if last.row == row then last.end_col else 0

-- why the range is rejected after the last valid range: none if it is valid too. The first reason
-- that applies counts
abbrev pub reason : List (List ℕ) → Option AtomicRange → AtomicRange →
    Option AtomicRangeRejectReason
reason rows last range =
    if range.start_col == range.end_col then Some Empty
    else (if nat_le (length rows) range.row then Some RowOutOfBounds
    else (if nat_lt range.end_col range.start_col
    || nat_lt (length (line_of rows range.row)) range.end_col
    then Some ColumnOutOfBounds
    else (if nat_lt range.start_col (free_from last range.row) then Some OverlapsPrevious
    else None)))

-- the range with its reason, if there is one
abbrev pub with_reason : AtomicRange → Option AtomicRangeRejectReason → List RejectedAtomicRange
with_reason range None = []
with_reason range (Some reason) = record { range = range; reason = reason } ∷ []

-- the last valid range after this range: this one, if it has no reason to be rejected
abbrev pub last_valid : Option AtomicRange → AtomicRange → Option AtomicRangeRejectReason →
    Option AtomicRange
last_valid last range None = Some range
last_valid last range (Some reason) = last

-- the rejected ranges of an ordered list, after the last valid range
abbrev pub rejected_after : List (List ℕ) → Option AtomicRange → List AtomicRange →
    List RejectedAtomicRange
rejected_after rows last [] = []
rejected_after rows last (range ∷ rest) =
    let why = reason rows last range in
    with_reason range why ++ rejected_after rows (last_valid last range why) rest

-- the rejected ranges of an ordered list, in that order, each with its reason
abbrev pub rejected_of : List (List ℕ) → List AtomicRange → List RejectedAtomicRange
rejected_of rows ranges = rejected_after rows None ranges

-- the ranges are accepted: they are stored in order, they are valid, and none is rejected
pub record AreAccepted (rows : List (List ℕ)) (supplied stored : List AtomicRange) : Type 0 where
  pub order : stored ≡ in_order supplied
  pub sorted : AreInOrder stored
  pub valid : AreValid rows stored
  pub none : rejected_of rows stored ≡ []

-- the ranges are rejected: all that have a reason are listed, at least one, and they are not valid
pub record AreRejected (rows : List (List ℕ)) (supplied : List AtomicRange)
    (rejected : List RejectedAtomicRange) : Type 0 where
  pub listed : rejected ≡ rejected_of rows (in_order supplied)
  pub some : rejected ≢ []
  pub invalid : ¬ AreValid rows supplied
