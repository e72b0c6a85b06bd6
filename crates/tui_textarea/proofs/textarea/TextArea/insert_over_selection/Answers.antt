use Rattle.std.proofs.Common.{◌≡◌, ◌∙◌, List, ap}
use Rattle.std.proofs.lemmas.Result.{IfOk-weaker, on_ok_weaker}
use Rattle.textarea_text.specs.Text.{Symbol, text_of}
use Rattle.textarea_document.specs.Edits.{has_symbols}
use Rattle.tui_textarea.specs.Edits.{symbols_or_none_inserted}
use Rattle.tui_textarea.specs.Fitting.{fitting_selection}
use Rattle.tui_textarea.specs.Grouping.{call_begun, call_ended}
use Rattle.tui_textarea.specs.Selection.{unselected}
use Rattle.textarea_data.specs.declared.range.AtomicCursorBias.TheVariants.{Forward}
use Rattle.tui_textarea.specs.State.{State}
use Rattle.tui_textarea.specs.Units.{settled}
use Rattle.tui_textarea.proofs.Grouping.{ended_err, ended_ok, fitting_beside_group}
use Rattle.tui_textarea.proofs.textarea.TextArea.insert_over_selection.Goals as goal

pub returns-clause-inserted : goal.returns-clause-inserted
returns-clause-inserted c =
    let old = c.args.self.now in
    let symbols = text_of c.args.fragment_lines.value.items in
    IfOk-weaker c.replace_by_fragment-inserted.result (λ b. b ≡ has_symbols (fitting_selection c.begin_call-opens.new.self symbols)) (λ b. b ≡ has_symbols (fitting_selection old symbols))
    (λ b e. e ∙ ap (λ (s : State). has_symbols (fitting_selection s symbols)) c.begin_call-opens.ensures.begun ∙ ap has_symbols (fitting_beside_group old symbols))
    c.replace_by_fragment-inserted.ensures.inserted

pub returns-clause-ok : goal.returns-clause-ok
returns-clause-ok c =
    let old = c.args.self.now in
    let symbols = text_of c.args.fragment_lines.value.items in
    on_ok_weaker c.replace_by_fragment-inserted.result
    (λ e. e ∙ ap (λ (t : List Symbol). settled Forward (call_ended old (symbols_or_none_inserted (unselected (call_begun old)) t))) (fitting_beside_group old symbols))
    (ended_ok c.replace_by_fragment-inserted.result (λ (s : State). symbols_or_none_inserted (unselected s) (fitting_selection s symbols)) old
    c.replace_by_fragment-inserted.new.self c.begin_call-opens.ensures.opens
    c.begin_call-opens.ensures.begun c.end_call.ensures c.replace_by_fragment-inserted.ensures.ok)

pub returns-clause-err : goal.returns-clause-err
returns-clause-err c =
    ended_err c.replace_by_fragment-inserted.result c.args.self.now c.replace_by_fragment-inserted.new.self c.begin_call-opens.ensures.opens c.begin_call-opens.ensures.begun c.end_call.ensures c.replace_by_fragment-inserted.ensures.err
