-- Heights that have room for all rows.
use Rattle.std.proofs.Common.{◌≡◌, ℕ, ◌+◌, ◌≤◌, None, min, max, ap, arith}
use Rattle.textarea_view.specs.Measure.{chrome_of, greatest_height, least_height, saturated_u16}
use Rattle.textarea_view.specs.SurroundState.{SurroundState}

-- a height within the greatest height and the screen has room for these rows, if both have
pub room_for : (surround : SurroundState) (rows content preferred screen height : ℕ) → surround.block ≡ None → content ≡ saturated_u16 rows
    → preferred ≡ min (greatest_height surround) (max (least_height surround) (saturated_u16 (content + chrome_of surround.block)))
    → height ≡ min preferred screen → screen ≤ 65535 → rows ≤ screen → rows ≤ surround.max_rows → rows ≤ height
room_for surround rows content preferred screen height none content_is preferred_is height_is limit fits within =
    let chrome : chrome_of surround.block ≡ 0 = ap chrome_of none in
    omega (arith, chrome, content_is, preferred_is, height_is, limit, fits, within)
