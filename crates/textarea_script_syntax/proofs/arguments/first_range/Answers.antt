use Rattle.std.proofs.Common.{◌∙◌, ◌∷◌, [], Option, sym, ap, option_map}
use Rattle.textarea_data.specs.declared.range.AtomicRange.{AtomicRange}
use Rattle.textarea_script_syntax.specs.Ranges.{ranges}
use Rattle.textarea_script_syntax.proofs.Ranges.{first_and, ranges_more, ranges_one, ranges_three, ranges_two}
use Rattle.textarea_script_syntax.proofs.arguments.first_range.Goals as goal

pub returns-in_err-row-clause-value : goal.returns-in_err-row-clause-value
returns-in_err-row-clause-value c =
    let none = ranges_one c.args.text.now c.in_err-row.ensures.value in
    rw c.from_residual.ensures none

pub returns-in_err-start-clause-value : goal.returns-in_err-start-clause-value
returns-in_err-start-clause-value c =
    let none = ranges_two c.args.text.now c.in_ok-row.row.now c.in_ok-row.rest.now c.in_ok-row.ensures.value c.in_err-start.ensures.value in
    rw c.from_residual-in_err-start.ensures none

pub returns-in_err-range-in-Some-clause-value : goal.returns-in_err-range-in-Some-clause-value
returns-in_err-range-in-Some-clause-value c =
    let none = ranges_more c.args.text.now c.in_ok-row.row.now c.in_ok-row.rest.now c.in_ok-start.start.now c.in_ok-start.rest.now c.in-Some.end.now c.in-Some.after.now
    c.in_ok-row.ensures.value c.in_ok-start.ensures.value c.in-Some.ensures.value
    ∙ ap (λ (one : Option AtomicRange). first_and one (ranges c.in-Some.after.now)) (sym c.in_err-range-in-Some.ensures) in
    rw c.from_residual-in_err-range-in-Some.ensures none

pub returns-in_err-range-in-None-clause-value : goal.returns-in_err-range-in-None-clause-value
returns-in_err-range-in-None-clause-value c =
    let none = ranges_three c.args.text.now c.in_ok-row.row.now c.in_ok-row.rest.now c.in_ok-start.start.now c.in_ok-start.rest.now c.in_ok-row.ensures.value c.in_ok-start.ensures.value c.in-None.ensures.value
    ∙ ap (λ (one : Option AtomicRange). option_map (λ one. one ∷ []) one) (sym c.in_err-range-in-None.ensures) in
    rw c.from_residual-in_err-range-in-None.ensures none

pub returns-in_ok-range-in-Some-clause-value : goal.returns-in_ok-range-in-Some-clause-value
returns-in_ok-range-in-Some-clause-value c =
    ranges_more c.args.text.now c.in_ok-row.row.now c.in_ok-row.rest.now c.in_ok-start.start.now c.in_ok-start.rest.now c.in-Some.end.now c.in-Some.after.now c.in_ok-row.ensures.value c.in_ok-start.ensures.value c.in-Some.ensures.value
    ∙ ap (λ (one : Option AtomicRange). first_and one (ranges c.in-Some.after.now)) (sym c.in_ok-range-in-Some.ensures)

pub returns-in_ok-range-in-None-clause-value : goal.returns-in_ok-range-in-None-clause-value
returns-in_ok-range-in-None-clause-value c =
    ranges_three c.args.text.now c.in_ok-row.row.now c.in_ok-row.rest.now c.in_ok-start.start.now c.in_ok-start.rest.now c.in_ok-row.ensures.value c.in_ok-start.ensures.value c.in-None.ensures.value
    ∙ ap (λ (one : Option AtomicRange). option_map (λ one. one ∷ []) one) (sym c.in_ok-range-in-None.ensures)
