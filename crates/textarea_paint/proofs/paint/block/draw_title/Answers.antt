use Rattle.std.proofs.lemmas.Grind.{common_steps}
use Rattle.std.proofs.Common.{◌≡◌, ◌+◌, sym, ap, ◌∙◌, arith}
use Rattle.std.specs.Option.{option_map}
use Rattle.std.proofs.lemmas.Result.{on_ok_weaker, on_err_weaker}
use Rattle.textarea_screen.specs.Block.{block_view}
use Rattle.textarea_screen.specs.Rect.{contains}
use Rattle.textarea_screen.specs.Text.{line_view}
use Rattle.textarea_screen.proofs.ChangeLemmas.{Changes-as, KeepsOutside-wider}
use Rattle.textarea_paint.specs.Block.{in_area, title_row, title_change, title_cells}
use Rattle.textarea_paint.specs.Cells.{is_in_cells, place_from, row_change}
use Rattle.textarea_paint.specs.Clusters.{row_clusters}
use Rattle.textarea_paint.specs.LineClusters.{clusters_left}
use Rattle.textarea_paint.specs.declared.paint.cells.RowCells.{RowCells}
use Rattle.textarea_paint.proofs.BlockLemmas.{title_cells-are, title_cells-within, title_in_area}
use Rattle.textarea_paint.proofs.paint.block.draw_title.Goals as goal

cells_are : (c : goal.After-draw_clusters) →
    (let cells : RowCells = record { x = c.args.area.x + c.side_width-left.result; y = c.args.area.y; width = c.saturating_sub-in-Some.result } in cells)
    ≡ title_cells c.args.block.now.borders c.args.area
cells_are c = grind (arith, common_steps, title_cells-are)

pub returns-in-Some-clause-ok : goal.returns-in-Some-clause-ok
returns-in-Some-clause-ok c =
    let borders = c.args.block.now.borders in
    let area = c.args.area in
    let line = line_view c.in-Some.title in
    on_ok_weaker c.draw_clusters.result
    (λ drawn.
    Changes-as (in_area area (title_change (block_view c.args.block.now) area)) drawn
    (λ x y cell.
    title_in_area borders area _ (place_from 0 (clusters_left c.new-clusters.result)) (cells_are c) c.requires.rows x y cell
    ∙ ap (λ clusters. in_area area (row_change (title_cells borders area) 0 (place_from 0 clusters)) x y cell) (c.new-clusters.ensures ∙ ap (λ s. row_clusters s line) c.new.ensures)
    ∙ ap (λ t. in_area area (title_row t (title_cells borders area)) x y cell) (sym (ap (option_map line_view) c.in-Some.is))))
    c.draw_clusters.ensures.ok

pub returns-in-Some-clause-err : goal.returns-in-Some-clause-err
returns-in-Some-clause-err c =
    on_err_weaker c.draw_clusters.result
    (λ unchanged.
    KeepsOutside-wider (contains c.args.area) unchanged
    (λ x y outside. ap (λ cells. is_in_cells cells x y) (cells_are c) ∙ title_cells-within c.args.block.now.borders c.args.area x y c.requires.rows outside))
    c.draw_clusters.ensures.err
