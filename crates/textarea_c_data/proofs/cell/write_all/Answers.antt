use Rattle.std.proofs.Common.{◌≡◌, ◌+◌, List, drop, map, ap, refl, subst, sym}
use Rattle.textarea_c_data.specs.Cells.{plain_screen_cell}
use Rattle.textarea_c_data.specs.Copied.{copied_over, written_at}
use Rattle.textarea_c_data.specs.declared.cell.CCell.{CCell}
use Rattle.textarea_c_data.proofs.Copied.{item_out}
use Rattle.textarea_c_data.proofs.cell.write_all.Goals as goal

pub loop-index-preserved : goal.loop-index-preserved
loop-index-preserved c =
    let all = c.args.cells.now in let at = c.loop-index.index in
    subst (λ (out : List CCell). written_at (at + 1) out (map plain_screen_cell (drop (at + 1) all)) ≡ copied_over c.args.out.now (map plain_screen_cell all)) (sym c.write_at.ensures.out)
    (item_out plain_screen_cell all at (at + 1) c.index-cells-index.result c.loop-index.out _ _ c.loop-index-test.true refl (ap plain_screen_cell c.index-cells-index.is) c.loop-index.invariant)
