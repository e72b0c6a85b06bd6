-- The area inside a block.
use Rattle.std.specs.Prelude.{◌≡◌, ℕ, ◌+◌, min, Option, None, Some}
use Rattle.textarea_screen.specs.Block.{BlockView, left_inset, top_inset}
use Rattle.textarea_screen.specs.declared.screen.rect.Rect.{Rect}
use Rattle.textarea_view.specs.Measure.{height_inside, width_inside}

-- the columns that a block takes at the left of an area of this width, at most all of them
abbrev pub left_of : Option BlockView → ℕ → ℕ
left_of None width = 0
left_of (Some block) width = min (left_inset block) width

-- the rows that it takes at the top of an area of this height
abbrev pub top_of : Option BlockView → ℕ → ℕ
top_of None height = 0
top_of (Some block) height = min (top_inset block) height

-- the inner area: the area inside the block, or all of it without a block
pub record IsInner (block : Option BlockView) (area inner : Rect) : Type 0 where
  pub x : inner.x ≡ area.x + left_of block area.width
  pub y : inner.y ≡ area.y + top_of block area.height
  pub width : inner.width ≡ width_inside block area.width
  pub height : inner.height ≡ height_inside block area.height
