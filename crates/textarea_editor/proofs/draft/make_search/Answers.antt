use Rattle.std.proofs.Common.{◌∙◌}
use Rattle.textarea_editor.proofs.Drafts.{on_err}
use Rattle.textarea_editor.proofs.Searches.{search_found, search_made, search_ran_out}
use Rattle.textarea_editor.proofs.draft.make_search.Goals as goal
use Rattle.tui_textarea.specs.CallResults.{call_result}

pub returns-in_err-make-clause-err : goal.returns-in_err-make-clause-err
returns-in_err-make-clause-err c =
    on_err c.from_residual.result
    (search_ran_out c.args.call c.args.area.now c.make.new.area c.requires c.in_err-make.ensures.err)

pub returns-clause-ok : goal.returns-clause-ok
returns-clause-ok c =
    search_made c.args.call c.in_ok-make.field-0 c.args.area.now c.make.new.area c.requires c.in_ok-make.ensures.answer c.in_ok-make.ensures.ok

pub returns-clause-found : goal.returns-clause-found
returns-clause-found c =
    c.has_found.ensures
    ∙ search_found c.args.call (call_result c.in_ok-make.field-0) c.args.area.now c.make.new.area c.requires c.in_ok-make.ensures.answer c.in_ok-make.ensures.ok
