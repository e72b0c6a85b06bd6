-- The index of a terminal's cell, with its row and column.
use Rattle.std.specs.Prelude.{◌≡◌, ℕ, ◌+◌, ◌*◌, ◌<◌, ◌≤◌}
use Rattle.textarea_terminal.specs.declared.output.spot.Spot.{Spot}

-- the row and the column are those of the index, in rows of this number of columns
pub record IsSpot (columns : ℕ) (spot : Spot) : Type 0 where
  pub index : spot.index ≡ spot.row * columns + spot.column
  pub column : 0 < columns → spot.column < columns
  pub row : spot.row ≤ spot.index
