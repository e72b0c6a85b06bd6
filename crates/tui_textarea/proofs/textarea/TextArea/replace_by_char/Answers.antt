use Rattle.std.proofs.Common.{◌≡◌, ◌∙◌, ap, inr, subst}
use Rattle.std.specs.Result.{OnOk}
use Rattle.std.proofs.lemmas.Result.{on_err_weaker, on_ok_weaker}
use Rattle.textarea_data.specs.declared.range.AtomicCursorBias.TheVariants.{Forward}
use Rattle.tui_textarea.specs.Edits.{char_or_break_inserted}
use Rattle.tui_textarea.specs.State.{State}
use Rattle.tui_textarea.specs.Units.{settled}
use Rattle.tui_textarea.proofs.Unselected.{unselected_is}
use Rattle.tui_textarea.proofs.textarea.TextArea.replace_by_char.Goals as goal

pub returns-clause-ok : goal.returns-clause-ok
returns-clause-ok c =
    on_ok_weaker c.insert_char_or_break-inserted.result (λ e. c.settle.ensures.new ∙ ap (settled Forward) e)
    (subst (λ (s : State). OnOk c.insert_char_or_break-inserted.result (c.insert_char_or_break-inserted.new.self ≡ char_or_break_inserted s c.args.c))
    (unselected_is c.self.view_is c.remove_selection.new.self c.in_ok-remove_selection.ensures.ok) c.insert_char_or_break-inserted.ensures.ok)

pub returns-clause-err : goal.returns-clause-err
returns-clause-err c =
    on_err_weaker c.insert_char_or_break-inserted.result
    (λ e. inr (c.settle.ensures.new ∙ ap (settled Forward) (e ∙ unselected_is c.self.view_is c.remove_selection.new.self c.in_ok-remove_selection.ensures.ok)))
    c.insert_char_or_break-inserted.ensures.err
