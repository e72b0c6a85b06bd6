-- A line drawn in a row of an area.
use Rattle.std.specs.Prelude.{◌≡◌, ℕ, zero, suc, ◌≤◌, ◌-◌, ◌/◌, Bool, nat_le, List, [], length, take, filter, sum_by, if◌then◌else◌}
use Rattle.textarea_screen.specs.Buffer.{Change}
use Rattle.textarea_screen.specs.Rect.{is_in_row}
use Rattle.textarea_screen.specs.Text.{LineView}
use Rattle.textarea_screen.specs.declared.screen.alignment.Alignment.{Alignment}
use Rattle.textarea_screen.specs.declared.screen.alignment.Alignment.TheVariants.{Left, Center, Right}
use Rattle.textarea_screen.specs.declared.screen.rect.Rect.{Rect}
use Rattle.textarea_paint.specs.Cells.{Placed, place_from, row_change}
use Rattle.textarea_paint.specs.Clusters.{Cluster, row_clusters}
use Rattle.textarea_paint.specs.Columns.{columns_of}
use Rattle.textarea_paint.specs.declared.paint.cells.RowCells.{RowCells}
use Rattle.textarea_paint.specs.declared.paint.row.RowArea.{RowArea}

-- ---- the grapheme clusters that are drawn in the middle or at the right

-- the sum of the clusters' columns
abbrev pub clusters_width : List Cluster → ℕ
clusters_width clusters = sum_by (λ cluster. columns_of cluster.text) clusters

-- the longest prefix of at most `most` clusters whose widths sum to at most the room
abbrev pub longest_front : ℕ → ℕ → List Cluster → List Cluster
longest_front room zero clusters = []
longest_front room (suc most) clusters =
    if nat_le (clusters_width (take (suc most) clusters)) room then take (suc most) clusters else longest_front room most clusters

-- the longest prefix of the clusters whose widths sum to at most the room
abbrev pub front_within : ℕ → List Cluster → List Cluster
front_within room clusters = longest_front room (length clusters) clusters

-- a prefix of the clusters whose widths sum to at most the room, and the longest such prefix
pub record IsLongestFront (room : ℕ) (clusters front : List Cluster) : Type 0 where
  pub is_front : front ≡ take (length front) clusters
  pub fits : clusters_width front ≤ room
  pub longest : (count : ℕ) → count ≤ length clusters → clusters_width (take count clusters) ≤ room → count ≤ length front

-- whether the cluster is no wider than the area
abbrev pub is_no_wider : ℕ → Cluster → Bool
is_no_wider width cluster = nat_le (columns_of cluster.text) width

-- of the clusters no wider than the area, the longest prefix whose widths sum to at most the area's
abbrev pub fitting : ℕ → List Cluster → List Cluster
fitting width clusters = front_within width (filter (is_no_wider width) clusters)

-- ---- their columns

-- the number of columns between the left edge of an area and the start of a line: 0 at the left,
-- else that which centers the drawn clusters, both halves rounded down, or aligns them at the right
abbrev pub line_offset : Alignment → ℕ → List Cluster → ℕ
line_offset Left width clusters = 0
line_offset Center width clusters = width / 2 - clusters_width (fitting width clusters) / 2
line_offset Right width clusters = width - clusters_width (fitting width clusters)

-- the clusters that are in the row
abbrev pub fitting_clusters : Alignment → ℕ → List Cluster → List Cluster
fitting_clusters Left width clusters = clusters
fitting_clusters Center width clusters = fitting width clusters
fitting_clusters Right width clusters = fitting width clusters

-- the clusters of a line with their columns in a row of `width` columns
abbrev pub placed_row : Alignment → ℕ → List Cluster → List Placed
placed_row alignment width clusters = place_from (line_offset alignment width clusters) (fitting_clusters alignment width clusters)

-- the first column of the row that is shown
abbrev pub first_visible_column : Alignment → ℕ → ℕ
first_visible_column Left left = left
first_visible_column Center left = 0
first_visible_column Right left = 0

abbrev pub cells_of_row : Rect → ℕ → RowCells
cells_of_row area y = record { x = area.x; y = y; width = area.width }

-- a cell after a line is drawn in row y of an area
unfoldable pub row_cell : RowArea → ℕ → LineView → Change
row_cell rows y line column row cell = if is_in_row rows.area y column row
    then row_change (cells_of_row rows.area y) (first_visible_column rows.alignment rows.left)
    (placed_row rows.alignment rows.area.width (row_clusters rows.style line)) column row cell
    else cell
