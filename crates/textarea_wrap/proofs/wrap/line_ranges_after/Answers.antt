use Rattle.std.proofs.Common.{max}
use Rattle.textarea_wrap.specs.Prelude.{IfOk, IsWrapped}
use Rattle.textarea_wrap.proofs.CountedLemmas.{AreMarked, if_counted, of_rows}
use Rattle.textarea_wrap.proofs.FewestRowLemmas.{HasFewestRows-wrapped}
use Rattle.textarea_wrap.proofs.wrap.line_ranges_after.Goals as goal
use Rattle.textarea_wrap.proofs.wrap.line_ranges_after.Goals.{After-counted}

counted : (c : After-counted) → IfOk c.counted.result (AreMarked c.args.line.now (IsWrapped c.args.mode c.args.tab_len (max c.args.width 1) c.args.line.now))
counted c =
    let line = c.args.line.now in
    let wrapped = c.rewrap_and_mark-wrapped in
    let rows = rw c.max.ensures at wrapped.ensures.rows in
    if_counted wrapped.result c.counted.result (λ t. t.items) line (IsWrapped c.args.mode c.args.tab_len (max c.args.width 1) line) rows
    c.counted.ensures.ranges c.counted.ensures.marks c.counted.ensures.out_of_memory

pub returns-clause-rows : goal.returns-clause-rows
returns-clause-rows c = of_rows c.counted.result _ _ (λ r p. p.0) (counted (goal.at.returns-clause-rows c).After-counted)

pub returns-clause-marks : goal.returns-clause-marks
returns-clause-marks c = of_rows c.counted.result _ _ (λ r p. p.1) (counted (goal.at.returns-clause-marks c).After-counted)

pub returns-clause-fewest : goal.returns-clause-fewest
returns-clause-fewest c = λ some.
    of_rows c.counted.result _ _ (λ r p. HasFewestRows-wrapped _ _ _ _ _ some p.0) (counted (goal.at.returns-clause-fewest c).After-counted)
