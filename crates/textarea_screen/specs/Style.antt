-- Styles, and two styles applied one after the other.
use Rattle.std.specs.Prelude.{None}
use Rattle.std.specs.Option.{option_or}
use Rattle.textarea_screen.specs.Modifier.{union_of, difference_of}
use Rattle.textarea_screen.specs.declared.screen.modifier.Modifier.{Modifier}
use Rattle.textarea_screen.specs.declared.screen.style.Style.{Style}

-- the style that sets no colour and neither adds nor removes a modifier
abbrev pub empty_style : Style
empty_style = record { fg = None; bg = None; add_modifier = record { 0 = 0 }; sub_modifier = record { 0 = 0 } }

-- the style that applies `style` and then `over`: the colours of `over` where it has them, and for
-- each modifier what `over` does to it, else what `style` does
abbrev pub patched : Style → Style → Style
patched style over = record {
  fg = option_or over.fg style.fg;
  bg = option_or over.bg style.bg;
  add_modifier = union_of (difference_of style.add_modifier over.sub_modifier) over.add_modifier;
  sub_modifier = union_of (difference_of style.sub_modifier over.add_modifier) over.sub_modifier;
}

-- the style that also adds these modifiers and no longer removes them
abbrev pub with_modifier : Style → Modifier → Style
with_modifier style modifier = record style {
  add_modifier = union_of style.add_modifier modifier;
  sub_modifier = difference_of style.sub_modifier modifier;
}
