-- How much of an area a block takes, and a block as contracts see it.
use Rattle.std.specs.Prelude.{ℕ, ◌-◌, Bool, ◌||◌, ◌==◌, Option, None, is_some}
use Rattle.std.specs.Int.RustNames.{bit_and}
use Rattle.std.specs.Option.{option_map}
use Rattle.textarea_screen.specs.Inset.{inset_of}
use Rattle.textarea_screen.specs.Style.{empty_style}
use Rattle.textarea_screen.specs.Text.{LineView, line_view}
use Rattle.textarea_screen.specs.declared.screen.block.Block.{Block}
use Rattle.textarea_screen.specs.declared.screen.block.Borders.{Borders}
use Rattle.textarea_screen.specs.declared.screen.rect.Padding.{Padding}
use Rattle.textarea_screen.specs.declared.screen.style.Style.{Style}

-- the block with no border, no padding and no title, in empty styles
abbrev pub plain_block : Block
plain_block = record {
  borders = record { 0 = 0 };
  padding = record { left = 0; right = 0; top = 0; bottom = 0 };
  title = None;
  style = empty_style;
  border_style = empty_style;
}

-- the same with a border at each of the four sides
abbrev pub bordered_block : Block
bordered_block = record plain_block { borders = record { 0 = 15 } }

-- the bits of the four sides
abbrev pub top_side : ℕ
top_side = 1

abbrev pub right_side : ℕ
right_side = 2

abbrev pub bottom_side : ℕ
bottom_side = 4

abbrev pub left_side : ℕ
left_side = 8

-- whether the set has the side of this bit
abbrev pub has_border : Borders → ℕ → Bool
has_border borders side = bit_and borders.0 side == side

-- a block whose title is compared by its text and styles
pub record BlockView : Type 0 where
  pub borders : Borders
  pub padding : Padding
  pub title : Option LineView
  pub style : Style
  pub border_style : Style

abbrev pub block_view : Block → BlockView
block_view block = record {
  borders = block.borders;
  padding = block.padding;
  title = option_map line_view block.title;
  style = block.style;
  border_style = block.border_style;
}

-- the columns at the left and the right, and the rows at the top and the bottom, that a block
-- takes; a title takes the top row, with a top border or without
abbrev pub left_inset : BlockView → ℕ
left_inset block = inset_of (has_border block.borders left_side) block.padding.left

abbrev pub right_inset : BlockView → ℕ
right_inset block = inset_of (has_border block.borders right_side) block.padding.right

abbrev pub top_inset : BlockView → ℕ
top_inset block = inset_of (has_border block.borders top_side || is_some block.title) block.padding.top

abbrev pub bottom_inset : BlockView → ℕ
bottom_inset block = inset_of (has_border block.borders bottom_side) block.padding.bottom

-- the columns inside a block of this width, and the rows inside one of this height; at least 0
abbrev pub inner_width : BlockView → ℕ → ℕ
inner_width block width = width - left_inset block - right_inset block

abbrev pub inner_height : BlockView → ℕ → ℕ
inner_height block height = height - top_inset block - bottom_inset block
