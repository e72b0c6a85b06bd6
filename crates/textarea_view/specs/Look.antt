-- The default appearance.
use Rattle.std.specs.Prelude.{None, Some}
use Rattle.textarea_screen.specs.Style.{empty_style}
use Rattle.textarea_screen.specs.declared.screen.alignment.Alignment.TheVariants.{Left}
use Rattle.textarea_screen.specs.declared.screen.color.Color.TheVariants.{Blue, LightBlue}
use Rattle.textarea_screen.specs.declared.screen.style.Style.{Style}
use Rattle.textarea_data.specs.declared.cursor.CursorRenderMode.TheVariants.{Cell}
use Rattle.textarea_view.specs.declared.look.Look.{Look}

-- the style of the cursor: reversed, which is the modifier 64
abbrev pub default_cursor_style : Style
default_cursor_style = record empty_style { add_modifier = record { 0 = 64 } }

-- the style of the cursor's line: underlined, which is the modifier 8
abbrev pub default_cursor_line_style : Style
default_cursor_line_style = record empty_style { add_modifier = record { 0 = 8 } }

abbrev pub default_selection_style : Style
default_selection_style = record empty_style { bg = Some LightBlue }

abbrev pub default_search_style : Style
default_search_style = record empty_style { bg = Some Blue }

-- the styles above, all else in no style, at the left, without a mask, the cursor drawn in its cell
abbrev pub default_look : Look
default_look = record {
  style = empty_style;
  cursor_style = default_cursor_style;
  cursor_line_style = default_cursor_line_style;
  line_number_style = empty_style;
  cursor_line_number_style = empty_style;
  selection_style = default_selection_style;
  search_style = default_search_style;
  alignment = Left;
  mask = None;
  cursor_render_mode = Cell;
}
