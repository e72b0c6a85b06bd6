-- Rows that will replace others in a screen map.
use Rattle.std.specs.Prelude.{◌≡◌, ℕ, ◌+◌, ◌<◌, ◌≤◌, List, length, vec_len}
use Rattle.textarea_util.specs.Replaced.{replaced}
use Rattle.textarea_wrap.specs.RowsView.{RowsView}
use Rattle.textarea_screen_map.specs.declared.layout.Wrapping.{Wrapping}
use Rattle.textarea_screen_map.specs.declared.screen_map.NewRows.{NewRows}
use Rattle.textarea_screen_map.specs.declared.screen_map.NewRows.TheVariants as new
use Rattle.textarea_screen_map.specs.declared.screen_map.PreparedRows.{PreparedRows}
use Rattle.textarea_blocks.specs.Blocks.{BlocksView, FitsInBlock, IsEdge, all_rows}
use Rattle.textarea_blocks.specs.Sums.{IsWithinLimit, row_total, size_total}
use Rattle.textarea_screen_map.specs.Map.{MapView}

-- the new rows, in order
abbrev pub rows_in : NewRows → List RowsView
rows_in (new.Few rows) = rows.items
rows_in (new.Many rows) = all_rows rows.blocks

-- all rows after prepared rows replaced some of these
abbrev pub rows_with : List RowsView → PreparedRows → List RowsView
rows_with rows prepared = replaced rows prepared.row prepared.count (rows_in prepared.rows)

-- The blocks, with `all` rows, have room to replace those of the `count` lines from `row` on: for
-- few lines, room in the block of the line `row`, which exists; for many, a block that begins at
-- `row`, or `row` after all lines, and room for more blocks.
abbrev pub HasRoom : List RowsView → BlocksView → ℕ → ℕ → NewRows → Type 0
HasRoom all blocks row count (new.Few rows) = (row < length all) × FitsInBlock blocks row count (vec_len rows)
HasRoom all blocks row count (new.Many rows) = IsEdge blocks.blocks row × (length rows.blocks ≤ blocks.more)

-- The rows can be put into the map without allocation: the replaced lines exist, there is room, the
-- numbers are right, and the map is within the limit afterwards.
pub record CanPutRows (map : MapView) (prepared : PreparedRows) : Type 0 where
  pub within : prepared.row + prepared.count ≤ length map.rows
  pub room : HasRoom map.rows map.room prepared.row prepared.count prepared.rows
  pub total : prepared.total ≡ row_total (rows_with map.rows prepared)
  pub size : prepared.size ≡ size_total (rows_with map.rows prepared)
  pub limit : IsWithinLimit (rows_with map.rows prepared)

-- the rows can be put in for those of the `count` lines from the row on, with this wrapping
pub record IsPreparedFor (map : MapView) (row count : ℕ) (wrapping : Wrapping) (prepared : PreparedRows) : Type 0 where
  pub ready : CanPutRows map prepared
  pub row_is : prepared.row ≡ row
  pub count_is : prepared.count ≡ count
  pub wrapping_is : prepared.wrapping ≡ wrapping
