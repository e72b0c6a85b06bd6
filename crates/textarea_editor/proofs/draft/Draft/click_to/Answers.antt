use Rattle.std.proofs.lemmas.Result.{on_err_weaker, on_ok_weaker}
use Rattle.textarea_editor.proofs.Clicks.{clicks_fail_first, clicks_fail_then, clicks_made, clicks_none}
use Rattle.textarea_editor.proofs.Drafts.{on_err}
use Rattle.textarea_editor.proofs.draft.Draft.click_to.Goals as goal

pub returns-in_default-clause-ok : goal.returns-in_default-clause-ok
returns-in_default-clause-ok c =
    clicks_none c.args.selects c.args.further c.args.self.now c.area.result.now c.args.cell.x c.args.cell.y c.in_ok-place.field-0 c.area.ensures c.in_default.is c.in_ok-place.ensures.hit

pub returns-in_err-select-clause-err : goal.returns-in_err-select-clause-err
returns-in_err-select-clause-err c =
    on_err c.from_residual-in_err-select.result
    (clicks_fail_first c.args.selects c.args.further c.args.self.now c.select.new.self c.area.result.now c.args.cell.x c.args.cell.y c.in_ok-place.field-0 c.in-Some.place
    c.area.ensures c.in-Some.is c.in_ok-place.ensures.hit c.in_err-select.ensures.err)

pub returns-clause-ok : goal.returns-clause-ok
returns-clause-ok c =
    on_ok_weaker c.move_on.result
    (λ later. clicks_made c.args.selects c.args.further c.args.self.now c.select.new.self c.move_on.new.self c.area.result.now c.args.cell.x c.args.cell.y c.in_ok-place.field-0 c.in-Some.place
    c.area.ensures c.in-Some.is c.in_ok-place.ensures.hit c.in_ok-select.ensures.ok later)
    c.move_on.ensures.ok

pub returns-clause-err : goal.returns-clause-err
returns-clause-err c =
    on_err_weaker c.move_on.result
    (λ later. clicks_fail_then c.args.selects c.args.further c.args.self.now c.select.new.self c.move_on.new.self c.area.result.now c.args.cell.x c.args.cell.y c.in_ok-place.field-0 c.in-Some.place
    c.area.ensures c.in-Some.is c.in_ok-place.ensures.hit c.in_ok-select.ensures.ok later)
    c.move_on.ensures.err
