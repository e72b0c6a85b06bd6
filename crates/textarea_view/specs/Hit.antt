-- The position in the text that a cell of the screen shows.
use Rattle.std.specs.Prelude.{◌≡◌, ℕ, ◌-◌, Bool, true, false, Option, None, Some}
use Rattle.textarea_view.specs.Frame.{FrameState, shows_placeholder}
use Rattle.textarea_view.specs.Placements.{HasRowView}
use Rattle.textarea_screen_map.specs.BorrowedLines.{BorrowedRows}
use Rattle.textarea_blocks.specs.Sums.{row_total}
use Rattle.textarea_screen_map.specs.VisualRows.{greatest_column, row_at}
use Rattle.textarea_screen_map.specs.VisualPositions.{IsPlaceNear}
use Rattle.textarea_screen_map.specs.declared.layout.VisualPosition.{VisualPosition}
use Rattle.textarea_view.specs.Scene.{SceneState}
use Rattle.textarea_screen.specs.Rect.{contains}
use Rattle.textarea_screen.specs.declared.screen.rect.Rect.{Rect}
use Rattle.textarea_text.specs.Place.{Place}
use Rattle.textarea_view.specs.Caret.{hit_column, hit_row}
use Rattle.textarea_view.specs.Viewport.{ViewportState}
use Rattle.textarea_view.specs.declared.row_view.RowView.{RowView}

-- the greatest display column that a cursor can have in a visual row
abbrev pub greatest_at : BorrowedRows → ℕ → ℕ
greatest_at rows row = greatest_column rows.wrapping.tab_len (row_at rows.lines rows.rows row)

-- the position of a cursor that is put to this visual position
abbrev pub IsNear : BorrowedRows → VisualPosition → Place → Type 0
IsNear rows visual place = IsPlaceNear rows.wrapping.tab_len rows.lines rows.rows visual place

-- ---- hit tests

-- a cell of the inner area shows a visual row, at most the last one, and a display column of it
pub record IsHitInRows (scene : SceneState) (viewport : ViewportState) (inner : Rect) (x y : ℕ) (place : Place) : Type 0 where
  pub row : ℕ
  pub row_is : hit_row viewport.row inner (row_total scene.rows.rows - 1) x y ≡ Some row
  pub view : RowView
  pub view_is : HasRowView scene viewport inner row view
  pub near : IsNear scene.rows (record { row = row; column = hit_column view (greatest_at scene.rows row) x }) place

-- with a placeholder each cell shows the start
abbrev pub IsHitWith : Bool → FrameState → ViewportState → Rect → ℕ → ℕ → Place → Type 0
IsHitWith true frame viewport inner x y place = place ≡ (0, 0)
IsHitWith false frame viewport inner x y place = IsHitInRows frame.scene viewport inner x y place

-- a cell outside of the inner area shows no position
abbrev pub IsHitBy : Bool → FrameState → ViewportState → Rect → ℕ → ℕ → Option Place → Type 0
IsHitBy false frame viewport inner x y found = found ≡ None
IsHitBy true frame viewport inner x y found = (place : Place) × (found ≡ Some place)
    × IsHitWith (shows_placeholder frame) frame viewport inner x y place

-- the position that the cell in column x and row y shows, if it shows one
abbrev pub IsHitOf : FrameState → ViewportState → Rect → ℕ → ℕ → Option Place → Type 0
IsHitOf frame viewport inner x y found =
    IsHitBy (contains inner x y) frame viewport inner x y found
