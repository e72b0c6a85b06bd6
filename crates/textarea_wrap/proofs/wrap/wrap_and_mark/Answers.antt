use Rattle.std.proofs.Common.{arith}
use Rattle.textarea_wrap.proofs.MarkLemmas.{rows_ordered}
use Rattle.textarea_wrap.proofs.OneRowLemmas.{length-one_row}
use Rattle.textarea_wrap.proofs.wrap.wrap_and_mark.Goals as goal

pub push_marks-requires : goal.push_marks-requires
push_marks-requires c =
    let wrapped = c.in_ok-ranges.ensures.rows in
    record { placed = wrapped.placed; ordered = rows_ordered _ _ _ _ _ wrapped }

-- a line of one row has no marks, and needs no memory for them
pub returns-in_err-push_marks-clause-one_row : goal.returns-in_err-push_marks-clause-one_row
returns-in_err-push_marks-clause-one_row c = λ short one.
    let no = c.in_err-push_marks.ensures.none (omega (arith, length-one_row _ _ _ _ _ c.utf8.line one c.in_ok-ranges.ensures.rows)) in
    absurd cc
