-- Lines that are borrowed with their rows in a map.
use Rattle.std.specs.Prelude.{◌<◌, ◌≤◌, List, String, ℕ, length}
use Rattle.textarea_util.specs.Limit.{size_limit}
use Rattle.textarea_text.specs.Size.{size_of}
use Rattle.textarea_text.specs.Text.{lines_of}
use Rattle.textarea_wrap.specs.RowsView.{RowsView}
use Rattle.textarea_screen_map.specs.LineRows.{AreRowsOf}
use Rattle.textarea_screen_map.specs.Map.{MapView}
use Rattle.textarea_screen_map.specs.declared.layout.Wrapping.{Wrapping}

-- lines, each by its characters, how they are wrapped, and the rows of each
pub record BorrowedRows : Type 0 where
  pub lines : List (List ℕ)
  pub wrapping : Wrapping
  pub rows : List RowsView

-- what contracts see of lines that are borrowed with a map
abbrev pub borrowed_rows : {Z : Type 0} → List (String Z) → MapView → BorrowedRows
borrowed_rows lines map = record { lines = lines_of lines; wrapping = map.wrapping; rows = map.rows }

-- there is a line; bytes and lines together are at most 2^48; and the map has the rows of the lines
pub record AreRowsRight {Z : Type 0} (lines : List (String Z)) (map : MapView) : Type 0 where
  pub some : 0 < length lines
  pub limit : size_of lines ≤ size_limit
  pub right : AreRowsOf map.wrapping (lines_of lines) map.rows
