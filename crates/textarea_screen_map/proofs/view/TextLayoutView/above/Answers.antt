use Rattle.std.proofs.Common.{◌≡◌, ◌+◌, ◌-◌, ◌<◌, ◌∙◌, ap, arith, length, subst, take}
use Rattle.textarea_blocks.specs.Sums.{ranges_at, row_total}
use Rattle.textarea_screen_map.specs.BorrowedLines.{BorrowedRows}
use Rattle.textarea_screen_map.specs.LineRows.{AreRowsOf}
use Rattle.textarea_screen_map.proofs.ThereAndBack.{is_above}
use Rattle.textarea_screen_map.proofs.VisualRows.{rows_before_next, some_of_line}
use Rattle.textarea_screen_map.proofs.view.TextLayoutView.above.Goals as goal
use Rattle.textarea_screen_map.proofs.view.TextLayoutView.above.Goals.{After-as_slice}

-- the line above has some rows
there : (c : After-as_slice) → (0 < length c.as_slice.result.now) × (length c.as_slice.result.now ≡ length (ranges_at c.args.self.now.rows (c.args.place.0 - 1)))
there c =
    let view = c.args.self.now in
    let line = c.args.place.0 - 1 in
    let right = subst (λ (v : BorrowedRows). AreRowsOf v.wrapping v.lines v.rows) c.self.view_is c.self.invariant.0.right in
    let size = ap length (c.as_slice.ensures ∙ c.rows_at.ensures.ranges ∙ ap (λ (v : BorrowedRows). ranges_at v.rows line) c.self.view_is) in
    (omega (arith, size, some_of_line view.wrapping view.lines view.rows line right (omega (arith, c.requires.0))), size)

pub overflow_sub-last : goal.overflow_sub-last
overflow_sub-last c = omega (arith, there c)

pub near_in_line-target-requires-clause-number : goal.near_in_line-target-requires-clause-number
near_in_line-target-requires-clause-number c = omega (arith, there c)

pub returns : goal.returns
returns c =
    let view = c.args.self.now in
    let next : c.args.place.0 - 1 + 1 ≡ c.args.place.0 = omega (arith, c.if-line-eq0.false) in (
      c.near_in_line-target.ensures.place,
      is_above view.wrapping.tab_len view.lines view.rows c.args.place c.near_in_line-target.result _ _ _ c.visual_in_line-row.ensures.visual
          (omega (arith, there (goal.at.returns c).After-as_slice, c.if-row-gt0.false, rows_before_next view.rows (c.args.place.0 - 1), ap (λ n. row_total (take n view.rows)) next))
          c.near_in_line-target.ensures.near,
    )
