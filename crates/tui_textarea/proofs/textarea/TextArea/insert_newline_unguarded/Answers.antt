use Rattle.tui_textarea.specs.Edits.{line_broken}
use Rattle.tui_textarea.specs.Selection.{unselected}
use Rattle.tui_textarea.specs.State.{State}
use Rattle.tui_textarea.proofs.Grouping.{ended_err, ended_ok}
use Rattle.tui_textarea.proofs.textarea.TextArea.insert_newline_unguarded.Goals as goal

pub returns-clause-ok : goal.returns-clause-ok
returns-clause-ok c =
    ended_ok c.replace_by_break-inserted.result (λ (s : State). line_broken (unselected s)) c.args.self.now
    c.replace_by_break-inserted.new.self c.begin_call-opens.ensures.opens c.begin_call-opens.ensures.begun c.end_call.ensures
    c.replace_by_break-inserted.ensures.ok

pub returns-clause-err : goal.returns-clause-err
returns-clause-err c =
    ended_err c.replace_by_break-inserted.result c.args.self.now c.replace_by_break-inserted.new.self c.begin_call-opens.ensures.opens c.begin_call-opens.ensures.begun c.end_call.ensures c.replace_by_break-inserted.ensures.err
