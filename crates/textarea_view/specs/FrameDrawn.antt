-- A buffer after a frame is drawn.
use Rattle.std.specs.Prelude.{List}
use Rattle.textarea_view.specs.Cells.{AreLinesOf, frame_change}
use Rattle.textarea_view.specs.Frame.{FrameState}
use Rattle.textarea_view.specs.Placements.{IsPlacement, Placement}
use Rattle.textarea_screen.specs.Buffer.{Changes, area_of}
use Rattle.textarea_screen.specs.Text.{LineView}
use Rattle.textarea_screen.specs.declared.screen.buffer.Buffer.{Buffer}
use Rattle.textarea_screen.specs.declared.screen.rect.Rect.{Rect}
use Rattle.textarea_view.specs.Viewport.{ViewportState}

-- the frame is drawn with this new viewport and caret; `viewport` is that of the last frame
pub record IsFrameDrawn (frame : FrameState) (viewport : ViewportState) (area inner : Rect) (old new : Buffer) (placement : Placement) : Type 0 where
  pub placing_is : IsPlacement frame viewport inner placement
  pub lines : List LineView
  pub lines_are : AreLinesOf frame placement.viewport inner (area_of old) lines
  pub cells : Changes old new (frame_change frame placement.viewport area inner lines)
