-- The atomic ranges that C passes and gets.
use Rattle.std.specs.Prelude.{ℕ, ◌≡◌, Option, MatchOption}
use Rattle.textarea_data.specs.declared.range.AtomicRange.{AtomicRange}
use Rattle.textarea_data.specs.declared.range.RejectedAtomicRange.{RejectedAtomicRange}
use Rattle.textarea_data.specs.declared.range.AtomicRangeRejectReason.{AtomicRangeRejectReason}
use Rattle.textarea_data.specs.declared.range.AtomicRangeRejectReason.TheVariants.{Empty, RowOutOfBounds, ColumnOutOfBounds, OverlapsPrevious}
use Rattle.textarea_c_data.specs.declared.range.CRange.{CRange}
use Rattle.textarea_c_data.specs.declared.range.Rejected.{Rejected}

abbrev pub range_of : CRange → AtomicRange
range_of r = record { row = r.row; start_col = r.start_col; end_col = r.end_col }

-- a range as C gets it
abbrev pub plain_range : AtomicRange → CRange
plain_range r = record { row = r.row; start_col = r.start_col; end_col = r.end_col }

-- the range is written, or the status says that there is none
abbrev pub IsRangeOut : Option AtomicRange → ℕ → CRange → Type 0
IsRangeOut found status range = MatchOption found (status ≡ 1) (λ hit. (status ≡ 0) × (range ≡ plain_range hit))

abbrev pub reason_number : AtomicRangeRejectReason → ℕ
reason_number Empty = 0
reason_number RowOutOfBounds = 1
reason_number ColumnOutOfBounds = 2
reason_number OverlapsPrevious = 3

-- a rejected range as C gets it
abbrev pub plain_rejected : RejectedAtomicRange → Rejected
plain_rejected r = record { range = plain_range r.range; reason = reason_number r.reason }
