use Rattle.std.proofs.Common.{◌+◌, ◌≤◌, List, arith, drop, length, refl, subst, sym, take, ℕ}
use Rattle.textarea_util.specs.Replaced.{replaced}
use Rattle.textarea_wrap.specs.RowsView.{RowsView}
use Rattle.textarea_blocks.specs.Sums.{IsWithinLimit, row_total, size_total}
use Rattle.textarea_screen_map.specs.Map.{MapView}
use Rattle.textarea_screen_map.specs.Prepared.{rows_in}
use Rattle.textarea_blocks.proofs.InBlocks.{rows_sum}
use Rattle.textarea_blocks.proofs.LineSums.{exchange, lines_few, size_total-append}
use Rattle.textarea_screen_map.proofs.screen_map.ScreenMap.replace.Goals as goal

-- two maps within the limit have at most twice as many lines and rows
lines : (rows new : List RowsView) (row count : ℕ) → IsWithinLimit rows → IsWithinLimit (replaced rows row count new) → length rows + length new ≤ 562949953421312
lines rows new row count before after =
    let sizes = exchange size_total rows (take count (drop row rows)) new row count size_total-append refl in
    omega (arith, lines_few rows, lines_few new, sizes.segment, sizes.after, before.size, after.size)

visual : (rows new : List RowsView) (row count : ℕ) → IsWithinLimit rows → IsWithinLimit (replaced rows row count new) → row_total rows + row_total new ≤ 562949953421312
visual rows new row count before after =
    let rows_of = exchange row_total rows (take count (drop row rows)) new row count rows_sum refl in
    omega (arith, rows_of.segment, rows_of.after, before.few, after.few)

pub put_rows-requires-clause-lines : goal.put_rows-requires-clause-lines
put_rows-requires-clause-lines c =
    let after = subst (λ (map : MapView). IsWithinLimit (replaced map.rows c.args.prepared.row c.args.prepared.count (rows_in c.args.prepared.rows))) (sym c.self.view_is) c.requires.limit in
    lines _ _ c.args.prepared.row c.args.prepared.count c.self.invariant.limit after

pub put_rows-requires-clause-rows : goal.put_rows-requires-clause-rows
put_rows-requires-clause-rows c =
    let after = subst (λ (map : MapView). IsWithinLimit (replaced map.rows c.args.prepared.row c.args.prepared.count (rows_in c.args.prepared.rows))) (sym c.self.view_is) c.requires.limit in
    visual _ _ c.args.prepared.row c.args.prepared.count c.self.invariant.limit after
