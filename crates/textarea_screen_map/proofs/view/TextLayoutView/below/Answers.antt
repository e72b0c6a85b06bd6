use Rattle.std.proofs.Common.{◌≡◌, ◌+◌, ◌≤◌, ◌∙◌, ap, arith, length, subst, take}
use Rattle.std.proofs.lemmas.List.{length-map, take_all}
use Rattle.textarea_text.specs.Text.{characters_of}
use Rattle.textarea_blocks.specs.Sums.{ranges_at, row_total}
use Rattle.textarea_screen_map.specs.BorrowedLines.{BorrowedRows}
use Rattle.textarea_screen_map.specs.LineRows.{AreRowsOf}
use Rattle.textarea_screen_map.specs.VisualPositions.{over_all_lines}
use Rattle.textarea_screen_map.proofs.Layouts.{length-AreRowsOf}
use Rattle.textarea_screen_map.proofs.ThereAndBack.{is_below}
use Rattle.textarea_screen_map.proofs.VisualRows.{row_count, rows_before_next, some_of_line}
use Rattle.textarea_screen_map.proofs.view.TextLayoutView.below.Goals as goal
use Rattle.textarea_screen_map.proofs.view.TextLayoutView.below.Goals.{After-as_slice-count, Else-row-count}

right : (c : After-as_slice-count) → AreRowsOf c.args.self.now.wrapping c.args.self.now.lines c.args.self.now.rows
right c = subst (λ (v : BorrowedRows). AreRowsOf v.wrapping v.lines v.rows) c.self.view_is c.self.invariant.0.right

size : (c : After-as_slice-count) → length c.as_slice-count.result.now ≡ length (ranges_at c.args.self.now.rows c.args.place.0)
size c = ap length (c.as_slice-count.ensures ∙ c.rows_at.ensures.ranges ∙ ap (λ (v : BorrowedRows). ranges_at v.rows c.args.place.0) c.self.view_is)

-- the next visual row is the first one of the next line
next :
    (c : Else-row-count) → length c.as_slice-count.result.now ≡ length (ranges_at c.args.self.now.rows c.args.place.0)
    → row_total (take c.args.place.0 c.args.self.now.rows) + c.visual_in_line-row.result.row + 1 ≡ row_total (take (c.args.place.0 + 1) c.args.self.now.rows)
next c size = omega (arith, size, c.if-row-count.false, c.visual_in_line-row.ensures.number, rows_before_next c.args.self.now.rows c.args.place.0)

pub returns-then-line-self : goal.returns-then-line-self
returns-then-line-self c =
    let at = goal.at.returns-then-line-self c in
    let view = c.args.self.now in
    let right = right at.After-as_slice-count in
    let count : length view.rows ≤ c.args.place.0 + 1 =
    omega (arith, c.if-line-self.true, length-map c.self.inside.lines.now characters_of, ap (λ (v : BorrowedRows). length v.lines) c.self.view_is, length-AreRowsOf view.wrapping view.lines view.rows right) in (
      over_all_lines view.rows c.args.place.0 c.visual_in_line-row.result,
      c.visual_in_line-row.ensures.visual,
      omega (arith, next at.Else-row-count (size at.After-as_slice-count), ap row_total (take_all (c.args.place.0 + 1) view.rows count), row_count view.wrapping view.lines view.rows right),
    )

pub near_in_line-target-requires-clause-number : goal.near_in_line-target-requires-clause-number
near_in_line-target-requires-clause-number c =
    let at = goal.at.near_in_line-target-requires-clause-number c in
    let view = c.args.self.now in
    some_of_line view.wrapping view.lines view.rows (c.args.place.0 + 1) (right at.After-as_slice-count)
    (omega (arith, c.requires.0, c.if-line-self.false, length-map c.self.inside.lines.now characters_of, ap (λ (v : BorrowedRows). length v.lines) c.self.view_is))

pub returns : goal.returns
returns c =
    let at = goal.at.returns c in
    let view = c.args.self.now in (
      c.near_in_line-target.ensures.place,
      is_below view.wrapping.tab_len view.lines view.rows c.args.place c.near_in_line-target.result _ _ _ c.visual_in_line-row.ensures.visual
          (omega (arith, next at.Else-row-count (size at.After-as_slice-count)))
          c.near_in_line-target.ensures.near,
    )
