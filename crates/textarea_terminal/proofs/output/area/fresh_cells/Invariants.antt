use Rattle.std.proofs.Common.{◌≡◌, map, replicate, vec_len}
use Rattle.textarea_screen.specs.Cell.{cell_view, fresh_cell}
use Rattle.textarea_terminal.proofs.output.area.fresh_cells.Given as goal

abbrev pub invariant-loop : goal.invariant-loop
invariant-loop l = (vec_len l.cells ≡ l.counter) × (map cell_view l.cells.items ≡ replicate l.counter fresh_cell)
