use Rattle.std.proofs.Common.{◌≡◌, vec_len}
use Rattle.std.specs.List.{All}
use Rattle.textarea_screen.specs.Cell.{cell_view, fresh_cell}
use Rattle.textarea_screen.proofs.screen.buffer.Buffer.empty.Given as goal

abbrev pub invariant-loop : goal.invariant-loop
invariant-loop l = (vec_len l.cells ≡ l.counter) × All (λ cell. cell_view cell ≡ fresh_cell) l.cells.items
