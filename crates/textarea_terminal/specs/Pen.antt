-- The pen of a terminal: the look of what it prints next. A terminal changes it by Select Graphic Rendition.
use Rattle.std.specs.Prelude.{ℕ, ◌+◌, ◌-◌, ◌^◌, Bool, ◌==◌, nat_le, List, [], ◌∷◌, ◌++◌, codes, decimal, if◌then◌else◌}
use Rattle.std.specs.Int.RustNames.{bit_and}
use Rattle.textarea_screen.specs.Cell.{CellView}
use Rattle.textarea_screen.specs.Modifier.{union_of}
use Rattle.textarea_screen.specs.declared.screen.color.Color.{Color}
use Rattle.textarea_screen.specs.declared.screen.color.Color.TheVariants.{Reset, Black, Red, Green, Yellow, Blue, Magenta, Cyan, Gray, DarkGray, LightRed, LightGreen, LightYellow, LightBlue, LightMagenta, LightCyan, White, Rgb, Indexed}
use Rattle.textarea_screen.specs.declared.screen.modifier.Modifier.{Modifier}
use Rattle.textarea_terminal.specs.declared.output.look.Pen.{Pen}

-- the look of a terminal that was reset: its own colours, and no modifier
abbrev pub plain_look : Pen
plain_look = record { fg = Reset; bg = Reset; modifier = record { 0 = 0 } }

-- the colours and modifiers of a cell
abbrev pub look_of : CellView → Pen
look_of cell = record { fg = cell.fg; bg = cell.bg; modifier = cell.modifier }

-- a cell of this text in this look
abbrev pub in_look : Pen → List ℕ → CellView
in_look look symbol = record { symbol = symbol; fg = look.fg; bg = look.bg; modifier = look.modifier }

-- ---- what a rendition changes

-- one rendition: a modifier that is added, by its number from 1 to 9, or a colour
pub data Rendition : Type 0 where
  Add : ℕ → Rendition
  Foreground : Color → Rendition
  Background : Color → Rendition

-- the modifier of a number: 1 is bold, 2 dim, 3 italic, 4 underlined, 5 slowly and 6 quickly blinking, 7 reversed, 8 hidden and
-- 9 crossed out
abbrev pub modifier_bit : ℕ → ℕ
modifier_bit number = 2 ^ (number - 1)

abbrev pub rendered : Pen → Rendition → Pen
rendered look (Add number) = record look { modifier = union_of look.modifier (record { 0 = modifier_bit number }) }
rendered look (Foreground color) = record look { fg = color }
rendered look (Background color) = record look { bg = color }

-- renditions one after another
abbrev pub rendered_all : Pen → List Rendition → Pen
rendered_all look [] = look
rendered_all look (rendition ∷ renditions) = rendered_all (rendered look rendition) renditions

-- ---- how many parameters a control has

abbrev pub color_parameters : Color → ℕ
color_parameters (Rgb red green blue) = 5
color_parameters (Indexed number) = 3
color_parameters color = 1

abbrev pub rendition_parameters : Rendition → ℕ
rendition_parameters (Add number) = 1
rendition_parameters (Foreground color) = color_parameters color
rendition_parameters (Background color) = color_parameters color

abbrev pub parameter_count : List Rendition → ℕ
parameter_count [] = 0
parameter_count (rendition ∷ renditions) = rendition_parameters rendition + parameter_count renditions

-- the renditions that a terminal reads, which leaves out all after this number of parameters
abbrev pub first_read : ℕ → List Rendition → List Rendition
first_read room [] = []
first_read room (rendition ∷ renditions) =
    if nat_le (rendition_parameters rendition) room then rendition ∷ first_read (room - rendition_parameters rendition) renditions else []

-- ---- its numbers

-- the eight colours are numbered from `base` on, the eight bright ones 60 after them; 8 after `base` introduces another colour
abbrev pub color_bytes : ℕ → Color → List ℕ
color_bytes base Reset = decimal (base + 9)
color_bytes base Black = decimal base
color_bytes base Red = decimal (base + 1)
color_bytes base Green = decimal (base + 2)
color_bytes base Yellow = decimal (base + 3)
color_bytes base Blue = decimal (base + 4)
color_bytes base Magenta = decimal (base + 5)
color_bytes base Cyan = decimal (base + 6)
color_bytes base Gray = decimal (base + 7)
color_bytes base DarkGray = decimal (base + 60)
color_bytes base LightRed = decimal (base + 61)
color_bytes base LightGreen = decimal (base + 62)
color_bytes base LightYellow = decimal (base + 63)
color_bytes base LightBlue = decimal (base + 64)
color_bytes base LightMagenta = decimal (base + 65)
color_bytes base LightCyan = decimal (base + 66)
color_bytes base White = decimal (base + 67)
color_bytes base (Rgb red green blue) =
    decimal (base + 8) ++ codes ";2;" ++ decimal red ++ codes ";" ++ decimal green ++ codes ";" ++ decimal blue
color_bytes base (Indexed number) = decimal (base + 8) ++ codes ";5;" ++ decimal number

abbrev pub rendition_bytes : Rendition → List ℕ
rendition_bytes (Add number) = decimal number
rendition_bytes (Foreground color) = color_bytes 30 color
rendition_bytes (Background color) = color_bytes 40 color

-- each with a semicolon before it
abbrev pub renditions_bytes : List Rendition → List ℕ
renditions_bytes [] = []
renditions_bytes (rendition ∷ renditions) = codes ";" ++ rendition_bytes rendition ++ renditions_bytes renditions

-- ---- the renditions that give a look to a pen that was reset

abbrev pub has_modifier : Modifier → ℕ → Bool
has_modifier modifier number = bit_and modifier.0 (modifier_bit number) == modifier_bit number

-- those of the modifiers with these numbers that the set has
abbrev pub added : Modifier → List ℕ → List Rendition
added modifier [] = []
added modifier (number ∷ numbers) =
    if has_modifier modifier number then Add number ∷ added modifier numbers else added modifier numbers

abbrev pub all_numbers : List ℕ
all_numbers = 1 ∷ 2 ∷ 3 ∷ 4 ∷ 5 ∷ 6 ∷ 7 ∷ 8 ∷ 9 ∷ []

abbrev pub foreground : Color → List Rendition
foreground Reset = []
foreground color = Foreground color ∷ []

abbrev pub background : Color → List Rendition
background Reset = []
background color = Background color ∷ []

-- those before the background
abbrev pub before_background : Pen → List Rendition
before_background look = added look.modifier all_numbers ++ foreground look.fg

unfoldable pub renditions_of : Pen → List Rendition
renditions_of look = before_background look ++ background look.bg

-- whether they are read from one control, which has one more parameter, for the reset
unfoldable pub fits_one_control : Pen → Bool
fits_one_control look = nat_le (parameter_count (renditions_of look)) 15

-- the number of controls that give the look: a second one has the background if the first has no
-- room
abbrev pub pen_count : Pen → ℕ
pen_count look = if fits_one_control look then 1 else 2
