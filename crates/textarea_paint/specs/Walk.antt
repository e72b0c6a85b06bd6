-- A row of clusters that is partly drawn.
use Rattle.std.specs.Prelude.{◌≡◌, ℕ, ◌+◌, List, ◌++◌}
use Rattle.textarea_screen.specs.Buffer.{Changes}
use Rattle.textarea_screen.specs.declared.screen.buffer.Buffer.{Buffer}
use Rattle.textarea_paint.specs.Cells.{IsColumnWithin, IsPenAt, place_from, row_change}
use Rattle.textarea_paint.specs.Clusters.{Cluster}
use Rattle.textarea_paint.specs.Row.{clusters_width}
use Rattle.textarea_paint.specs.declared.paint.cells.Pen.{Pen}
use Rattle.textarea_paint.specs.declared.paint.cells.RowCells.{RowCells}

-- those of all clusters but for the last ones, `rest`, are drawn, from the pen `start` on
pub record IsPartlyDrawn (cells : RowCells) (start pen : Pen) (all rest : List Cluster) (old now : Buffer) : Type 0 where
  pub front : List Cluster
  pub parts : all ≡ front ++ rest
  pub at : (left column : ℕ) → IsPenAt cells left column start → IsPenAt cells left (column + clusters_width front) pen
  pub drawn : (left column : ℕ) → IsPenAt cells left column start → Changes old now (row_change cells left (place_from column front))
  pub within : IsColumnWithin cells pen.x
