use Rattle.std.proofs.Common.{length, ap, sym, ◌∙◌}
use Rattle.std.proofs.lemmas.List.{length-map}
use Rattle.textarea_c_data.specs.Cells.{plain_screen_cell}
use Rattle.textarea_c_data.proofs.Cells.{cells_are}
use Rattle.textarea_c_data.proofs.cell.write_cells.Goals as goal

pub returns-clause-needed : goal.returns-clause-needed
returns-clause-needed c =
    sym (length-map c.cells-cells.result.now plain_screen_cell)
    ∙ ap length (cells_are c.args.buffer.now c.cells-cells.result.now c.cells-cells.ensures.count c.cells-cells.ensures.cells)
