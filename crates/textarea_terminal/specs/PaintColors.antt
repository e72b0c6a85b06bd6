-- The colours of terminals that have fewer, and which of them is shown for another.
use Rattle.std.specs.Prelude.{ℕ, zero, suc, ◌+◌, ◌-◌, ◌*◌, ◌/◌, ◌%◌, nat_lt, List, [], ◌∷◌, slice_index, min, if◌then◌else◌}
use Rattle.textarea_screen.specs.declared.screen.color.Color.{Color}
use Rattle.textarea_screen.specs.declared.screen.color.Color.TheVariants.{Reset, Black, Red, Green, Yellow, Blue, Magenta, Cyan, Gray, DarkGray, LightRed, LightGreen, LightYellow, LightBlue, LightMagenta, LightCyan, White, Rgb, Indexed}
use Rattle.textarea_terminal.specs.declared.output.colors.Colors.{Colors}
use Rattle.textarea_terminal.specs.declared.output.colors.Colors.TheVariants as colors
use Rattle.textarea_terminal.specs.declared.output.colors.ColorParts.{ColorParts}

-- the square of how far two parts are apart
abbrev pub squared_difference : ℕ → ℕ → ℕ
squared_difference a b = if nat_lt b a then (a - b) * (a - b) else (b - a) * (b - a)

-- how far two colours are apart: the sum over their parts
abbrev pub distance_between : ColorParts → ColorParts → ℕ
distance_between a b = squared_difference a.red b.red + squared_difference a.green b.green + squared_difference a.blue b.blue

-- ---- the sixteen colours with names

abbrev pub reds : List ℕ
reds = 0 ∷ 205 ∷ 0 ∷ 205 ∷ 0 ∷ 205 ∷ 0 ∷ 229 ∷ 127 ∷ 255 ∷ 0 ∷ 255 ∷ 92 ∷ 255 ∷ 0 ∷ 255 ∷ []

abbrev pub greens : List ℕ
greens = 0 ∷ 0 ∷ 205 ∷ 205 ∷ 0 ∷ 0 ∷ 205 ∷ 229 ∷ 127 ∷ 0 ∷ 255 ∷ 255 ∷ 92 ∷ 0 ∷ 255 ∷ 255 ∷ []

abbrev pub blues : List ℕ
blues = 0 ∷ 0 ∷ 0 ∷ 0 ∷ 238 ∷ 205 ∷ 205 ∷ 229 ∷ 127 ∷ 0 ∷ 0 ∷ 0 ∷ 255 ∷ 255 ∷ 255 ∷ 255 ∷ []

-- the parts of a named colour by its number, as xterm shows it
unfoldable pub named_parts : ℕ → ColorParts
named_parts number = record { red = slice_index reds number; green = slice_index greens number; blue = slice_index blues number }

-- the named colour of a number
abbrev pub named_color : ℕ → Color
named_color number =
    if nat_lt number 1 then Black
    else if nat_lt number 2 then Red
    else if nat_lt number 3 then Green
    else if nat_lt number 4 then Yellow
    else if nat_lt number 5 then Blue
    else if nat_lt number 6 then Magenta
    else if nat_lt number 7 then Cyan
    else if nat_lt number 8 then Gray
    else if nat_lt number 9 then DarkGray
    else if nat_lt number 10 then LightRed
    else if nat_lt number 11 then LightGreen
    else if nat_lt number 12 then LightYellow
    else if nat_lt number 13 then LightBlue
    else if nat_lt number 14 then LightMagenta
    else if nat_lt number 15 then LightCyan else White

-- the first number below a count at which a distance is least; 0 if there is none
unfoldable pub least_distant : (ℕ → ℕ) → ℕ → ℕ
least_distant distance zero = 0
least_distant distance (suc count) =
    if nat_lt (distance count) (distance (least_distant distance count)) then count else least_distant distance count

-- the number of the nearest named colour, of equally near ones the first
unfoldable pub nearest_named : ColorParts → ℕ
nearest_named parts = least_distant (λ number. distance_between parts (named_parts number)) 16

-- ---- the 240 colours with a number from 16 on: a cube of six levels of each part, and 24 grays

abbrev pub level_value : ℕ → ℕ
level_value level = if nat_lt level 1 then 0 else 55 + 40 * level

-- the level nearest to a part, of two the upper one
abbrev pub level_of : ℕ → ℕ
level_of part = if nat_lt part 48 then 0 else if nat_lt part 115 then 1 else (part - 35) / 40

abbrev pub gray_value : ℕ → ℕ
gray_value gray = 8 + 10 * gray

-- the gray nearest to the mean of the parts, of two the upper one
abbrev pub gray_of : ColorParts → ℕ
gray_of parts = min 23 (((parts.red + parts.green + parts.blue) / 3 - 3) / 10)

abbrev pub cube_parts : ℕ → ℕ → ℕ → ColorParts
cube_parts red green blue = record { red = level_value red; green = level_value green; blue = level_value blue }

abbrev pub gray_parts : ℕ → ColorParts
gray_parts gray = record { red = gray_value gray; green = gray_value gray; blue = gray_value gray }

-- the parts of a colour with a number from 16 on
abbrev pub indexed_parts : ℕ → ColorParts
indexed_parts number =
    if nat_lt number 232 then cube_parts ((number - 16) / 36) ((number - 16) / 6 % 6) ((number - 16) % 6) else gray_parts (number - 232)

-- the number of the nearer one of the nearest colour of the cube and the nearest gray; of equally
-- near ones that of the cube
unfoldable pub nearest_indexed : ColorParts → ℕ
nearest_indexed parts =
    if nat_lt (distance_between parts (gray_parts (gray_of parts))) (distance_between parts (cube_parts (level_of parts.red) (level_of parts.green) (level_of parts.blue)))
    then 232 + gray_of parts
    else 16 + 36 * level_of parts.red + 6 * level_of parts.green + level_of parts.blue

-- ---- what is shown

abbrev pub with_index : Color → Color
with_index (Rgb red green blue) = Indexed (nearest_indexed (record { red = red; green = green; blue = blue }))
with_index color = color

abbrev pub with_name : Color → Color
with_name (Rgb red green blue) = named_color (nearest_named (record { red = red; green = green; blue = blue }))
with_name (Indexed number) = if nat_lt number 16 then named_color number else named_color (nearest_named (indexed_parts number))
with_name color = color

-- the colour that a terminal with these colours shows for another
abbrev pub shown_color : Colors → Color → Color
shown_color colors.None color = Reset
shown_color colors.Sixteen color = with_name color
shown_color colors.Indexed color = with_index color
shown_color colors.True color = color
