use Rattle.std.proofs.Common.{◌∙◌, ap}
use Rattle.textarea_data.specs.declared.range.AtomicCursorBias.TheVariants.{Forward}
use Rattle.tui_textarea.specs.Units.{settled}
use Rattle.tui_textarea.proofs.Grouping.{nothing_after}
use Rattle.tui_textarea.proofs.textarea.TextArea.insert_nothing.Goals as goal

pub returns-clause-ok : goal.returns-clause-ok
returns-clause-ok c =
    c.settle.ensures.new ∙ ap (settled Forward)
    (nothing_after c.self.view_is c.remove_selection.new.self c.insert_nothing.new.self c.in_ok-removed.ensures.ok c.insert_nothing.ensures)
