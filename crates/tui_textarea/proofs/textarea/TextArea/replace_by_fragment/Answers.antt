use Rattle.std.proofs.Common.{◌≡◌, ◌∙◌, Bool, List, ap, inr, length, subst}
use Rattle.std.specs.Result.{IfOk, OnOk}
use Rattle.std.proofs.lemmas.Result.{on_err_weaker, on_ok_weaker}
use Rattle.textarea_data.specs.declared.range.AtomicCursorBias.TheVariants.{Forward}
use Rattle.textarea_text.specs.Text.{Symbol, text_of}
use Rattle.textarea_document.specs.Edits.{has_symbols}
use Rattle.tui_textarea.specs.Edits.{symbols_or_none_inserted}
use Rattle.tui_textarea.specs.Fitting.{fitting_beside}
use Rattle.tui_textarea.specs.State.{State}
use Rattle.tui_textarea.specs.Units.{settled}
use Rattle.tui_textarea.proofs.Unselected.{unselected_is}
use Rattle.tui_textarea.proofs.textarea.TextArea.replace_by_fragment.Goals as goal

-- what fits of the symbols
abbrev fits : List Symbol → State → List Symbol
fits symbols state = fitting_beside state.settings.max_chars (length state.document.text) symbols

pub returns-clause-inserted : goal.returns-clause-inserted
returns-clause-inserted c =
    let symbols = text_of c.args.fragment_lines.value.items in
    subst (λ (s : State). IfOk c.insert_fitting-inserted.result (λ (b : Bool). b ≡ has_symbols (fits symbols s)))
    (unselected_is c.self.view_is c.remove_selection.new.self c.in_ok-remove_selection.ensures.ok) c.insert_fitting-inserted.ensures.inserted

pub returns-clause-ok : goal.returns-clause-ok
returns-clause-ok c =
    let symbols = text_of c.args.fragment_lines.value.items in
    on_ok_weaker c.insert_fitting-inserted.result (λ e. c.settle.ensures.new ∙ ap (settled Forward) e)
    (subst (λ (s : State). OnOk c.insert_fitting-inserted.result (c.insert_fitting-inserted.new.self ≡ symbols_or_none_inserted s (fits symbols s)))
    (unselected_is c.self.view_is c.remove_selection.new.self c.in_ok-remove_selection.ensures.ok) c.insert_fitting-inserted.ensures.ok)

pub returns-clause-err : goal.returns-clause-err
returns-clause-err c =
    on_err_weaker c.insert_fitting-inserted.result
    (λ e. inr (c.settle.ensures.new ∙ ap (settled Forward) (e ∙ unselected_is c.self.view_is c.remove_selection.new.self c.in_ok-remove_selection.ensures.ok)))
    c.insert_fitting-inserted.ensures.err
