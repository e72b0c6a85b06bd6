-- What calls in an area that C passes leave: each in the rectangle that the area stands for.
use Rattle.std.specs.Prelude.{if◌then◌else◌}
use Rattle.textarea_screen.specs.Buffer.{Changes}
use Rattle.textarea_screen.specs.Cell.{styled}
use Rattle.textarea_screen.specs.Rect.{contains}
use Rattle.textarea_screen.specs.declared.screen.buffer.Buffer.{Buffer}
use Rattle.textarea_screen.specs.declared.screen.rect.Rect.{Rect}
use Rattle.textarea_screen.specs.declared.screen.style.Style.{Style}
use Rattle.textarea_c_data.specs.declared.area.Area.{Area}
use Rattle.textarea_c_data.specs.Areas.{IsArea}

-- the style is applied to the cells of the area
pub record IsStyledIn (area : Area) (style : Style) (old new : Buffer) : Type 0 where
  pub rect : Rect
  pub is : IsArea area rect
  pub changes : Changes old new (λ x y cell. if contains rect x y then styled style cell else cell)
