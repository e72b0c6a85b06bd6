use Rattle.std.proofs.Common.{◌+◌, eqb, [], ◌∷◌, ap, ◌∙◌, arith}
use Rattle.textarea_screen.specs.Buffer.{wide_change}
use Rattle.textarea_screen.proofs.ChangeLemmas.{Changes-as}
use Rattle.textarea_paint.specs.Cells.{placed_at, row_change}
use Rattle.textarea_paint.specs.Clusters.{Cluster}
use Rattle.textarea_paint.specs.LineClusters.{styled_cluster}
use Rattle.textarea_paint.proofs.CellLemmas.{row_change-one}
use Rattle.textarea_paint.proofs.paint.cells.draw_cluster.Goals as goal

pub returns-clause-drawn : goal.returns-clause-drawn
returns-clause-drawn c = λ left column at.
    let cells = c.args.cells in
    let pen = c.args.pen in
    let cluster : Cluster = styled_cluster c.args.cluster in
    let hidden = c.min-hidden.result in
    let displayed = c.min-displayed.result in
    let end = pen.x + displayed in
    Changes-as (λ x y cell. row_change cells left (placed_at column cluster ∷ []) x y cell) c.in_ok-put_wide.ensures.ok
    (λ x y cell.
    ap (λ k. wide_change pen.x cells.y end cluster.text (eqb displayed k) cluster.style x y cell) c.requires.columns
    ∙ row_change-one cells pen left column hidden displayed cluster at
    (record { left_of = omega arith; inside = omega arith }) x y cell)
