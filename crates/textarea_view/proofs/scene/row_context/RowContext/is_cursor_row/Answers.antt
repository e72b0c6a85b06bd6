use Rattle.std.proofs.Common.{◌≡◌, ◌<◌, ◌==◌, length, sym, subst, arith}
use Rattle.textarea_view.specs.Prelude.{row_total, row_at, visual_rows, holds_place, SceneState}
use Rattle.textarea_screen_map.proofs.VisualRows.{row_count}
use Rattle.textarea_view.proofs.Holds.{holds_where_visual}
use Rattle.textarea_view.proofs.scene.row_context.RowContext.is_cursor_row.Goals as goal

pub returns : goal.returns
returns c =
    let inside = c.self.inside in
    let scene = inside.scene.now in
    let known = c.self.invariant in
    let row : c.args.row < row_total scene.rows.rows = subst (λ (s : SceneState). c.args.row < row_total s.rows.rows) (sym c.self.view_is) c.requires in
    let within : c.args.row < length (visual_rows scene.rows.lines scene.rows.rows) = omega (arith, row, row_count scene.rows.wrapping scene.rows.lines scene.rows.rows known.right) in
    subst (λ (s : SceneState). (c.args.row == inside.cursor_row) ≡ holds_place (row_at s.rows.lines s.rows.rows c.args.row) s.cursor) c.self.view_is
    (holds_where_visual scene.rows.wrapping scene.rows.lines scene.rows.rows scene.cursor c.args.row (record { row = inside.cursor_row; column = known.cursor.0 }) known.right known.cursor.1 within)
