use Rattle.std.proofs.Common.{◌+◌, ◌<◌, ap, arith, subst, take}
use Rattle.textarea_blocks.specs.Sums.{row_total}
use Rattle.textarea_screen_map.specs.BorrowedLines.{BorrowedRows}
use Rattle.textarea_screen_map.specs.LineRows.{AreRowsOf}
use Rattle.textarea_screen_map.proofs.RowSizes.{size_of_items}
use Rattle.textarea_screen_map.proofs.ThereAndBack.{visual_row_is}
use Rattle.textarea_screen_map.proofs.view.TextLayoutView.visual_position.Goals as goal
use Rattle.textarea_screen_map.proofs.view.TextLayoutView.visual_position.Goals.{After-first_row}

within : (c : After-first_row) → c.first_row.result + c.visual_in_line-row.result.row < row_total c.args.self.now.rows
within c =
    let view = c.args.self.now in
    let right = subst (λ (v : BorrowedRows). AreRowsOf v.wrapping v.lines v.rows) c.self.view_is c.self.invariant.0.right in
    omega (arith, visual_row_is view.wrapping view.lines view.rows c.args.place _ right c.visual_in_line-row.ensures.visual, c.first_row.ensures, ap (λ (v : BorrowedRows). row_total (take c.args.place.0 v.rows)) c.self.view_is)

pub overflow_add-result : goal.overflow_add-result
overflow_add-result c =
    omega (arith, within c, ap (λ (v : BorrowedRows). row_total v.rows) c.self.view_is, (size_of_items _ _ _ c.self.invariant.0.right).1, c.self.invariant.0.limit)

pub returns-clause-row : goal.returns-clause-row
returns-clause-row c = within c
