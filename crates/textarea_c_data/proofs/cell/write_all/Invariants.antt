use Rattle.std.proofs.Common.{◌≡◌, drop, map}
use Rattle.textarea_c_data.specs.Cells.{plain_screen_cell}
use Rattle.textarea_c_data.specs.Copied.{copied_over, written_at}
use Rattle.textarea_c_data.proofs.cell.write_all.Given as goal

-- what is left to write leads to the same slice
abbrev pub invariant-loop-index : goal.invariant-loop-index
invariant-loop-index l = written_at l.index l.out (map plain_screen_cell (drop l.index l.cells)) ≡ copied_over l.initial.out (map plain_screen_cell l.cells)
