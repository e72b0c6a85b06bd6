-- What contracts see of a screen map, and its invariant.
use Rattle.std.specs.Prelude.{◌≡◌, ℕ, List}
use Rattle.textarea_wrap.specs.RowsView.{RowsView}
use Rattle.textarea_blocks.specs.Blocks.{BlocksView}
use Rattle.textarea_blocks.specs.Sums.{IsWithinLimit, row_total, size_total}
use Rattle.textarea_screen_map.specs.declared.layout.Wrapping.{Wrapping}
use Rattle.textarea_screen_map.specs.LineRows.{AreRowsOf}

-- the rows of each line, how the lines are wrapped, and the blocks of the rows with their room for
-- more, which needs no allocation
pub record MapView : Type 0 where
  pub rows : List RowsView
  pub wrapping : Wrapping
  pub room : BlocksView

-- lines with this wrapping have this number of visual rows in all
abbrev pub IsRowCount : Wrapping → List (List ℕ) → ℕ → Type 0
IsRowCount wrapping lines count = (rows : List RowsView) × AreRowsOf wrapping lines rows × (count ≡ row_total rows)

-- A map stores the number of its rows and the size of their lines, both within the limit. Right
-- rows are no more than bytes and lines together (`laws::few_rows`), so the limit on size is
-- enough.
pub record IsCounted (rows : List RowsView) (total size : ℕ) : Type 0 where
  pub all : total ≡ row_total rows
  pub size_is : size ≡ size_total rows
  pub limit : IsWithinLimit rows
