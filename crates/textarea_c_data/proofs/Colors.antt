-- The colours that C gets are read as themselves.
use Rattle.std.proofs.Common.{◌≡◌, Some, refl}
use Rattle.textarea_screen.specs.declared.screen.color.Color.{Color}
use Rattle.textarea_screen.specs.declared.screen.color.Color.TheVariants.{Reset, Black, Red, Green, Yellow, Blue, Magenta, Cyan, Gray, DarkGray, LightRed, LightGreen, LightYellow, LightBlue, LightMagenta, LightCyan, White, Rgb, Indexed}
use Rattle.textarea_c_data.specs.Styles.{color_of, plain_color}

pub color_read : (color : Color) → color_of (plain_color (Some color)) ≡ Some (Some color)
color_read Reset = refl
color_read Black = refl
color_read Red = refl
color_read Green = refl
color_read Yellow = refl
color_read Blue = refl
color_read Magenta = refl
color_read Cyan = refl
color_read Gray = refl
color_read DarkGray = refl
color_read LightRed = refl
color_read LightGreen = refl
color_read LightYellow = refl
color_read LightBlue = refl
color_read LightMagenta = refl
color_read LightCyan = refl
color_read White = refl
color_read (Rgb red green blue) = refl
color_read (Indexed number) = refl
