-- The room that a block takes of an area, and the measured height of a text.
use Rattle.std.specs.Prelude.{ℕ, ◌+◌, ◌-◌, Bool, if◌then◌else◌, min, max, List, [], ◌∷◌, length, Option, None, Some}
use Rattle.textarea_screen.specs.Block.{BlockView, inner_height, inner_width}
use Rattle.textarea_screen.specs.Text.{LineView}
use Rattle.textarea_view.specs.SurroundState.{SurroundState}
use Rattle.textarea_data.specs.declared.measure.TextAreaMeasure.{TextAreaMeasure}

-- the width and height inside a block, if there is one, of an area of this size; at least 0
abbrev pub width_inside : Option BlockView → ℕ → ℕ
width_inside None width = width
width_inside (Some block) width = inner_width block width

abbrev pub height_inside : Option BlockView → ℕ → ℕ
height_inside None height = height
height_inside (Some block) height = inner_height block height

-- the rows that the block takes of the highest area
abbrev pub chrome_of : Option BlockView → ℕ
chrome_of block = 65535 - height_inside block 65535

-- the number, but at most 65535
abbrev pub saturated_u16 : ℕ → ℕ
saturated_u16 number = min number 65535

-- the number of rows to draw for a text of `rows` rows: those of the placeholder if the text is
-- empty and the placeholder has lines
abbrev pub visible_row_count : List LineView → ℕ → Bool → ℕ
visible_row_count [] rows is_empty = rows
visible_row_count (line ∷ lines) rows is_empty = if is_empty then length (line ∷ lines) else rows

-- the least height measured: the one that is set, or the chrome and one row if that is greater
abbrev pub least_height : SurroundState → ℕ
least_height surround = max surround.min_rows (saturated_u16 (chrome_of surround.block + 1))

-- the greatest height that is measured: the one that is set, or the least if that is greater
abbrev pub greatest_height : SurroundState → ℕ
greatest_height surround = max surround.max_rows (least_height surround)

-- the measure of a text of `rows` rows, empty or not: the rows to draw; the height for all of them
-- and the chrome, within the least and the greatest; and these two
abbrev pub measure_of : SurroundState → ℕ → Bool → TextAreaMeasure
measure_of surround rows is_empty =
    let content = saturated_u16 (visible_row_count surround.placeholder.lines rows is_empty) in
    record {
      content_rows = content;
      preferred_rows = min (greatest_height surround) (max (least_height surround) (saturated_u16 (content + chrome_of surround.block)));
      min_rows = least_height surround;
      max_rows = greatest_height surround;
    }
