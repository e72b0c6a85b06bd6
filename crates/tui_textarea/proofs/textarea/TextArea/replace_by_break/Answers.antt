use Rattle.std.proofs.Common.{◌∙◌, ap}
use Rattle.std.proofs.lemmas.Result.{on_ok_weaker}
use Rattle.textarea_data.specs.declared.range.AtomicCursorBias.TheVariants.{Forward}
use Rattle.textarea_document.specs.Edits.{break_inserted}
use Rattle.tui_textarea.specs.Units.{settled}
use Rattle.tui_textarea.proofs.Lifted.{unselected_lifted}
use Rattle.tui_textarea.proofs.Unselected.{left_settled}
use Rattle.tui_textarea.proofs.textarea.TextArea.replace_by_break.Goals as goal

pub returns-clause-ok : goal.returns-clause-ok
returns-clause-ok c =
    on_ok_weaker c.insert_break-inserted.result (λ e. c.settle.ensures.new ∙ ap (settled Forward) e)
    (unselected_lifted c.insert_break-inserted.result break_inserted c.self.view_is c.remove_selection.new.self c.insert_break-inserted.new.self
    c.in_ok-remove_selection.ensures.ok c.insert_break-inserted.ensures.ok)

pub returns-clause-err : goal.returns-clause-err
returns-clause-err c =
    left_settled c.insert_break-inserted.result c.self.view_is c.remove_selection.new.self c.insert_break-inserted.new.self
    c.in_ok-remove_selection.ensures.ok c.insert_break-inserted.ensures.err c.settle.ensures.new
