-- The part of a row that is seen.
use Rattle.std.specs.Prelude.{◌≡◌, ℕ, ◌+◌, ◌≤◌, ◌⊎◌, List, [], ◌++◌}
use Rattle.textarea_paint.specs.Clusters.{Cluster}
use Rattle.textarea_paint.specs.Row.{clusters_width}
use Rattle.textarea_paint.specs.declared.paint.cells.RowCells.{RowCells}

-- The clusters are those of the row but for clusters that end at or before the column `left`, and
-- for clusters that begin after the last of the cells. So what an edge cuts is in the part.
pub record IsVisiblePart (cells : RowCells) (left : ℕ) (row part : List Cluster) : Type 0 where
  pub before : List Cluster
  pub after : List Cluster
  pub row_is : row ≡ before ++ (part ++ after)
  pub left_edge : clusters_width before ≤ left
  pub right_edge : (after ≡ []) ⊎ (left + cells.width ≤ clusters_width before + clusters_width part)
