-- The colours and styles that C passes.
use Rattle.std.specs.Prelude.{ℕ, ◌==◌, if◌then◌else◌, List, [], ◌∷◌, Option, Some, None, option_map, option_and_then}
use Rattle.textarea_screen.specs.declared.screen.color.Color.{Color}
use Rattle.textarea_screen.specs.declared.screen.color.Color.TheVariants as color
use Rattle.textarea_screen.specs.declared.screen.color.Color.TheVariants.{Reset, Black, Red, Green, Yellow, Blue, Magenta, Cyan, Gray, DarkGray, LightRed, LightGreen, LightYellow, LightBlue, LightMagenta, LightCyan, White, Rgb, Indexed}
use Rattle.textarea_screen.specs.declared.screen.style.Style.{Style}
use Rattle.textarea_c_data.specs.declared.color.CColor.{CColor as PlainColor}
use Rattle.textarea_c_data.specs.declared.style.CStyle.{CStyle as PlainStyle}
use Rattle.textarea_c_data.specs.Tables.{value_of_number}

-- the colours that have no numbers of their own
abbrev pub colors : List (ℕ × Color)
colors =
    (1, color.Reset) ∷ (2, color.Black) ∷ (3, color.Red) ∷ (4, color.Green) ∷ (5, color.Yellow) ∷ (6, color.Blue) ∷ (7, color.Magenta) ∷ (8, color.Cyan)
    ∷ (9, color.Gray) ∷ (10, color.DarkGray) ∷ (11, color.LightRed) ∷ (12, color.LightGreen) ∷ (13, color.LightYellow) ∷ (14, color.LightBlue)
    ∷ (15, color.LightMagenta) ∷ (16, color.LightCyan) ∷ (17, color.White) ∷ []

-- the colour, or none at kind 0; outside there is nothing if the kind does not exist
abbrev pub color_of : PlainColor → Option (Option Color)
color_of c =
    if c.kind == 0 then Some None
    else if c.kind == 18 then Some (Some (color.Rgb c.red c.green c.blue))
    else if c.kind == 19 then Some (Some (color.Indexed c.red))
    else option_map Some (value_of_number colors c.kind)

abbrev pub style_of_numbers : PlainStyle → Option Style
style_of_numbers s =
    option_and_then
    (λ fg. option_map (λ bg. record { fg = fg; bg = bg; add_modifier = record { 0 = s.add_modifier }; sub_modifier = record { 0 = s.sub_modifier } }) (color_of s.bg))
    (color_of s.fg)

-- a colour without parts of its own
abbrev pub bare_color : ℕ → PlainColor
bare_color kind = record { kind = kind; red = 0; green = 0; blue = 0 }

-- a colour as C gets it, or none
abbrev pub plain_color : Option Color → PlainColor
plain_color None = bare_color 0
plain_color (Some Reset) = bare_color 1
plain_color (Some Black) = bare_color 2
plain_color (Some Red) = bare_color 3
plain_color (Some Green) = bare_color 4
plain_color (Some Yellow) = bare_color 5
plain_color (Some Blue) = bare_color 6
plain_color (Some Magenta) = bare_color 7
plain_color (Some Cyan) = bare_color 8
plain_color (Some Gray) = bare_color 9
plain_color (Some DarkGray) = bare_color 10
plain_color (Some LightRed) = bare_color 11
plain_color (Some LightGreen) = bare_color 12
plain_color (Some LightYellow) = bare_color 13
plain_color (Some LightBlue) = bare_color 14
plain_color (Some LightMagenta) = bare_color 15
plain_color (Some LightCyan) = bare_color 16
plain_color (Some White) = bare_color 17
plain_color (Some (Rgb red green blue)) = record { kind = 18; red = red; green = green; blue = blue }
plain_color (Some (Indexed number)) = record { kind = 19; red = number; green = 0; blue = 0 }

-- a style as C gets it
abbrev pub plain_style : Style → PlainStyle
plain_style s = record { fg = plain_color s.fg; bg = plain_color s.bg; add_modifier = s.add_modifier.0; sub_modifier = s.sub_modifier.0 }
