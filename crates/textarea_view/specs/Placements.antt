-- The viewport, and the cell of the caret.
use Rattle.std.specs.Prelude.{◌≡◌, ℕ, Bool, true, false, ◌||◌, ◌==◌, Option, None, Some, if◌then◌else◌}
use Rattle.textarea_view.specs.Frame.{FrameState, number_width, shows_placeholder}
use Rattle.textarea_view.specs.declared.look.Look.{Look}
use Rattle.textarea_screen_map.specs.VisualPositions.{IsVisualPosition}
use Rattle.textarea_screen_map.specs.declared.layout.VisualPosition.{VisualPosition}
use Rattle.textarea_paint.specs.declared.paint.row.RowArea.{RowArea}
use Rattle.textarea_view.specs.SceneDrawn.{IsRowStart}
use Rattle.textarea_view.specs.Scene.{SceneState}
use Rattle.textarea_screen.specs.Style.{empty_style}
use Rattle.textarea_screen.specs.declared.screen.alignment.Alignment.{Alignment}
use Rattle.textarea_screen.specs.declared.screen.alignment.Alignment.TheVariants.{Left, Center, Right}
use Rattle.textarea_screen.specs.declared.screen.rect.Position.{Position}
use Rattle.textarea_screen.specs.declared.screen.rect.Rect.{Rect}
use Rattle.textarea_view.specs.Caret.{caret_at, left_view, offset_view}
use Rattle.textarea_view.specs.Showing.{at_start, showing_row, showing_row_and_column}
use Rattle.textarea_view.specs.Viewport.{ViewportState}
use Rattle.textarea_view.specs.declared.row_view.RowView.{RowView}
use Rattle.textarea_wrap.specs.declared.wrap.WrapMode.{WrapMode}
use Rattle.textarea_wrap.specs.declared.wrap.WrapMode.TheVariants as wrap

-- a cell of the screen by its column and its row
abbrev pub cell_of_position : Position → ℕ × ℕ
cell_of_position position = (position.x, position.y)

-- the viewport, and the cell of the caret by its column and its row, if it is in view
pub record Placement : Type 0 where
  pub viewport : ViewportState
  pub caret : Option (ℕ × ℕ)

-- ---- a visual row in the inner area

-- the rows of an area from a first column on, with no style under those of the lines
abbrev pub row_area : Look → Rect → ℕ → RowArea
row_area look inner left =
    record { area = inner; alignment = look.alignment; left = left; style = empty_style }

-- the columns between the left edge and the start of the visual row: 0 at the left, else its line's
abbrev pub IsStart : Alignment → SceneState → RowArea → ℕ → ℕ → Type 0
IsStart Left scene rows row start = start ≡ 0
IsStart Center scene rows row start = IsRowStart scene rows row start
IsStart Right scene rows row start = IsRowStart scene rows row start

-- the columns of a row in the area: at the left it is scrolled, else it begins at its start
abbrev pub row_view : Alignment → ViewportState → Rect → ℕ → ℕ → RowView
row_view Left viewport inner start columns = left_view viewport inner columns
row_view Center viewport inner start columns = offset_view viewport inner start columns
row_view Right viewport inner start columns = offset_view viewport inner start columns

-- the visual row has this view in the inner area, with this viewport
pub record HasRowView (scene : SceneState) (viewport : ViewportState) (inner : Rect) (row : ℕ) (view : RowView) : Type 0 where
  pub start : ℕ
  pub start_is : IsStart scene.look.alignment scene (row_area scene.look inner viewport.column) row start
  pub view_is : view ≡ row_view scene.look.alignment viewport inner start (number_width scene)

-- ---- after it is drawn

-- the viewport once the cursor is in view at this visual position: the first row follows the cursor,
-- and so does the first column of unwrapped lines
abbrev pub viewport_at : WrapMode → ViewportState → Rect → ℕ → VisualPosition → ViewportState
viewport_at wrap.None viewport inner columns visual =
    showing_row_and_column viewport inner visual.row visual.column columns
viewport_at other viewport inner columns visual = showing_row viewport inner visual.row

-- the caret's cell shows the cursor's visual row and display column in the new viewport
pub record IsPlacementInRows (scene : SceneState) (mode : WrapMode) (viewport : ViewportState) (inner : Rect) (placement : Placement) : Type 0 where
  pub visual : VisualPosition
  pub visual_is : IsVisualPosition scene.rows.wrapping.tab_len scene.rows.lines scene.rows.rows scene.cursor visual
  pub viewport_is : placement.viewport ≡ viewport_at mode viewport inner (number_width scene) visual
  pub view : RowView
  pub view_is : HasRowView scene placement.viewport inner visual.row view
  pub caret_is : placement.caret ≡ caret_at view visual.row visual.column

-- the corner of an area that has a cell
abbrev pub corner_caret : Rect → Option (ℕ × ℕ)
corner_caret inner =
    if (inner.width == 0) || (inner.height == 0) then None else Some (inner.x, inner.y)

-- with a placeholder nothing is scrolled, and the caret is in the corner
abbrev pub placed_at_corner : Rect → Placement
placed_at_corner inner = record { viewport = at_start inner; caret = corner_caret inner }

abbrev pub IsPlacementWith : Bool → FrameState → ViewportState → Rect → Placement → Type 0
IsPlacementWith true frame viewport inner placement = placement ≡ placed_at_corner inner
IsPlacementWith false frame viewport inner placement =
    IsPlacementInRows frame.scene frame.mode viewport inner placement

-- the new viewport and the caret's cell; `viewport` is that of the last frame
abbrev pub IsPlacement : FrameState → ViewportState → Rect → Placement → Type 0
IsPlacement frame viewport inner placement =
    IsPlacementWith (shows_placeholder frame) frame viewport inner placement
