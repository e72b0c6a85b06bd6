-- What a drawing into an area that C passes leaves.
use Rattle.std.specs.Prelude.{ℕ, ◌≡◌, ◌≢◌}
use Rattle.textarea_screen.specs.Buffer.{KeepsOutside}
use Rattle.textarea_screen.specs.Rect.{contains}
use Rattle.textarea_screen.specs.declared.screen.rect.Rect.{Rect}
use Rattle.tui_textarea.specs.CaretHit.{IsCaretHit}
use Rattle.tui_textarea.specs.CaretVisible.{IsCaretVisible}
use Rattle.tui_textarea.specs.Drawing.{IsRendered, widget_of}
use Rattle.tui_textarea.specs.Rendered.{IsDrawn}
use Rattle.textarea_c.specs.declared.editor.Editor.{Editor}
use Rattle.textarea_c_data.specs.declared.area.Area.{Area}
use Rattle.textarea_c_data.specs.Areas.{IsArea}

-- with status 0 the text area is drawn into the rectangle that the area stands for, and the caret's
-- cell shows the cursor, and is there if the area has room for it; no other cell changes, and
-- otherwise the text area stays
pub record IsRenderedIn (area : Area) (status : ℕ) (before after : Editor) : Type 0 where
  pub rect : Rect
  pub is : IsArea area rect
  pub rendered : status ≡ 0 → IsRendered before.area rect after.area
  pub drawn : status ≡ 0 → IsDrawn (widget_of after.area) rect before.screen after.screen
  pub back : status ≡ 0 → IsCaretHit (widget_of after.area)
  pub displayed : status ≡ 0 → IsCaretVisible (widget_of after.area)
  pub outside : KeepsOutside (contains rect) before.screen after.screen
  pub left : status ≢ 0 → (status ≡ 2) × (after.area ≡ before.area)
  pub rest : after ≡ record before { area = after.area; screen = after.screen }
