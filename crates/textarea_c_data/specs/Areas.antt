-- The rectangles that C passes.
use Rattle.std.specs.Prelude.{◌≡◌, ◌-◌, min}
use Rattle.textarea_screen.specs.declared.screen.rect.Rect.{Rect}
use Rattle.textarea_screen.specs.declared.screen.rect.Padding.{Padding}
use Rattle.textarea_c_data.specs.declared.area.Area.{Area}
use Rattle.textarea_c_data.specs.declared.area.CPadding.{CPadding as PlainPadding}

-- the rectangle, without the columns and rows past 65535
abbrev pub IsArea : Area → Rect → Type 0
IsArea a r = (r.x ≡ a.x) × (r.y ≡ a.y) × (r.width ≡ min a.width (65535 - a.x)) × (r.height ≡ min a.height (65535 - a.y))

abbrev pub padding_of : PlainPadding → Padding
padding_of p = record { left = p.left; right = p.right; top = p.top; bottom = p.bottom }

abbrev pub plain_padding : Padding → PlainPadding
plain_padding p = record { left = p.left; right = p.right; top = p.top; bottom = p.bottom }
