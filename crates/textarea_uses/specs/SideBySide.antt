-- Two text areas in two areas of a screen that share no cell.
use Rattle.std.specs.Prelude.{◌≡◌, ℕ, true, false}
use Rattle.textarea_screen.specs.Buffer.{cell_at}
use Rattle.textarea_screen.specs.Rect.{contains}
use Rattle.textarea_screen.specs.declared.screen.buffer.Buffer.{Buffer}
use Rattle.textarea_screen.specs.declared.screen.rect.Rect.{Rect}
use Rattle.tui_textarea.specs.DrawnFrame.{WidgetState}
use Rattle.tui_textarea.specs.Rendered.{IsDrawn}

-- no cell is in both rectangles
abbrev pub ShareNoCell : Rect → Rect → Type 0
ShareNoCell one other = (x y : ℕ) → contains one x y ≡ true → contains other x y ≡ false

-- the two buffers have the same cells in the rectangle
abbrev pub AgreeIn : Rect → Buffer → Buffer → Type 0
AgreeIn area one other = (x y : ℕ) → contains area x y ≡ true → cell_at one x y ≡ cell_at other x y

-- The areas share no cell. In each the new buffer has the cells of a drawing of its own text area:
-- in the left one of a drawing over the old buffer, and in the right one of a drawing over a buffer
-- that had the old cells there.
pub record AreDrawnApart (left right : WidgetState) (left_area right_area : Rect) (old new : Buffer) : Type 0 where
  pub apart : ShareNoCell left_area right_area
  pub between : Buffer
  pub left_is : IsDrawn left left_area old between
  pub left_stays : AgreeIn left_area new between
  pub right_finds : AgreeIn right_area between old
  pub right_is : IsDrawn right right_area between new
