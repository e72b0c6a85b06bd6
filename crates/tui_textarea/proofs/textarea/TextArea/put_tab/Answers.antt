use Rattle.std.proofs.Common.{◌≡◌, ◌∙◌, ap, inr, subst}
use Rattle.std.specs.Result.{OnOk}
use Rattle.std.proofs.lemmas.Result.{on_err_weaker, on_ok_weaker}
use Rattle.textarea_data.specs.declared.range.AtomicCursorBias.TheVariants.{Forward}
use Rattle.tui_textarea.specs.Edits.{tab_or_spaces_inserted}
use Rattle.tui_textarea.specs.State.{State}
use Rattle.tui_textarea.specs.Units.{settled}
use Rattle.tui_textarea.proofs.Unselected.{unselected_is}
use Rattle.tui_textarea.proofs.textarea.TextArea.put_tab.Goals as goal

pub returns-clause-ok : goal.returns-clause-ok
returns-clause-ok c =
    on_ok_weaker c.insert_tab_or_spaces-inserted.result (λ e. c.settle.ensures.new ∙ ap (settled Forward) e)
    (subst (λ (s : State). OnOk c.insert_tab_or_spaces-inserted.result (c.insert_tab_or_spaces-inserted.new.self ≡ tab_or_spaces_inserted s c.args.tab_length))
    (unselected_is c.self.view_is c.remove_selection.new.self c.in_ok-remove_selection.ensures.ok) c.insert_tab_or_spaces-inserted.ensures.ok)

pub returns-clause-err : goal.returns-clause-err
returns-clause-err c =
    on_err_weaker c.insert_tab_or_spaces-inserted.result
    (λ e. inr (c.settle.ensures.new ∙ ap (settled Forward) (e ∙ unselected_is c.self.view_is c.remove_selection.new.self c.in_ok-remove_selection.ensures.ok)))
    c.insert_tab_or_spaces-inserted.ensures.err
