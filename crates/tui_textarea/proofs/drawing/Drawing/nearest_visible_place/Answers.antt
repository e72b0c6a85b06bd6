use Rattle.std.proofs.Common.{subst}
use Rattle.tui_textarea.specs.DrawingPrelude.{IsVisualPosition, Place, IsNearestVisible, IsReached}
use Rattle.tui_textarea.proofs.drawing.Drawing.nearest_visible_place.Goals as goal
use Rattle.tui_textarea.proofs.drawing.Drawing.nearest_visible_place.Goals.{After-eq}

-- the position at the row and column
inside : (c : After-eq) (place : Place)
    → IsReached c.eq.result c.view-rows.result (record { row = c.clamp_row-row.result; column = c.clamp_column-column.result }) c.args.document.now.cursor place
    → IsNearestVisible c.args.document.now c.args.self.now.viewport place
inside c place reached =
    let rows = c.view-rows.result in
    let visual = c.visual_position-visual.result in
    rw (← c.self.view_is) (record {
      rows = rows;
      rows_are = c.view-rows.ensures;
      visual = visual;
      visual_is = subst (λ (p : Place). IsVisualPosition rows.wrapping.tab_len rows.lines rows.rows p visual) c.cursor-cursor.ensures.value c.visual_position-visual.ensures.visual;
      row = c.clamp_row-row.result;
      row_is = rw (c.row_count.ensures.value) at c.clamp_row-row.ensures;
      column = c.clamp_column-column.result;
      column_is = rw (c.greatest_column.ensures) at c.clamp_column-column.ensures;
      place_is = subst (λ b. IsReached b rows (record { row = c.clamp_row-row.result; column = c.clamp_column-column.result }) c.args.document.now.cursor place) c.eq.ensures reached;
    })

pub returns-then-eq-clause-inside : goal.returns-then-eq-clause-inside
returns-then-eq-clause-inside c = inside (goal.at.returns-then-eq-clause-inside c).After-eq c.cursor-cursor.result (rw c.if-eq.true c.cursor-cursor.ensures.value)

pub returns-else-eq-clause-inside : goal.returns-else-eq-clause-inside
returns-else-eq-clause-inside c = inside (goal.at.returns-else-eq-clause-inside c).After-eq c.place_near.result (rw c.if-eq.false c.place_near.ensures.near)
