use Rattle.std.proofs.lemmas.Result.{on_err_weaker, on_ok_weaker}
use Rattle.textarea_editor.proofs.Clicks.{row_shown, whole_fails, whole_made, whole_none}
use Rattle.textarea_editor.proofs.draft.Draft.select_at.Goals as goal
use Rattle.textarea_text.specs.Text.{lines_of}

pub ends_at-ends-requires : goal.ends_at-ends-requires
ends_at-ends-requires c =
    row_shown c.lines.result.now c.area-shown.result.now c.in_ok-place.field-0 c.in-Some.place c.lines.ensures.lines c.in-Some.is c.in_ok-place.ensures.place

pub returns-in_default-clause-ok : goal.returns-in_default-clause-ok
returns-in_default-clause-ok c =
    whole_none c.args.extent c.args.self.now c.area-shown.result.now c.args.cell.x c.args.cell.y c.in_ok-place.field-0 c.area-shown.ensures c.in_default.is c.in_ok-place.ensures.hit

pub returns-clause-ok : goal.returns-clause-ok
returns-clause-ok c =
    on_ok_weaker c.select_between.result
    (λ made. whole_made c.args.extent c.args.self.now c.select_between.new.self c.area-shown.result.now c.args.cell.x c.args.cell.y c.in_ok-place.field-0 c.in-Some.place (lines_of c.lines.result.now)
    c.ends_at-ends.result c.area-shown.ensures c.in-Some.is c.in_ok-place.ensures.hit c.lines.ensures.lines c.ends_at-ends.ensures made)
    c.select_between.ensures.ok

pub returns-clause-err : goal.returns-clause-err
returns-clause-err c =
    on_err_weaker c.select_between.result
    (λ failed. whole_fails c.args.extent c.args.self.now c.select_between.new.self c.area-shown.result.now c.args.cell.x c.args.cell.y c.in_ok-place.field-0 c.in-Some.place (lines_of c.lines.result.now)
    c.ends_at-ends.result c.area-shown.ensures c.in-Some.is c.in_ok-place.ensures.hit c.lines.ensures.lines c.ends_at-ends.ensures failed)
    c.select_between.ensures.err
