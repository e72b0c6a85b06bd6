-- A viewport after scrolling.
use Rattle.std.specs.Prelude.{ℕ, ◌+◌, ◌-◌, ◌/◌, ℤ, pos, negsuc}
use Rattle.textarea_data.specs.declared.scroll.Scrolling.{Scrolling}
use Rattle.textarea_data.specs.declared.scroll.Scrolling.TheVariants.{Delta, PageDown, PageUp, HalfPageDown, HalfPageUp}
use Rattle.textarea_view.specs.Viewport.{ViewportState, saturated_usize}

-- a first row or column after scrolling forward by a number, or back by a negative one (`negsuc n`
-- is n + 1 below 0): at most the greatest `usize`, and at least 0, where `-` stops
abbrev pub scrolled : ℕ → ℤ → ℕ
scrolled first (pos distance) = saturated_usize (first + distance)
scrolled first (negsuc before) = first - (before + 1)

abbrev pub scrolled_viewport : ViewportState → ℤ → ℤ → ViewportState
scrolled_viewport viewport rows columns =
    record viewport { row = scrolled viewport.row rows; column = scrolled viewport.column columns }

-- scrolled by a delta, by a page, which is the height, or by half of one, rounded down
abbrev pub scrolled_by : ViewportState → Scrolling → ViewportState
scrolled_by viewport (Delta rows columns) = scrolled_viewport viewport rows columns
scrolled_by viewport PageDown = record viewport { row = saturated_usize (viewport.row + viewport.height) }
scrolled_by viewport PageUp = record viewport { row = viewport.row - viewport.height }
scrolled_by viewport HalfPageDown = record viewport { row = saturated_usize (viewport.row + viewport.height / 2) }
scrolled_by viewport HalfPageUp = record viewport { row = viewport.row - viewport.height / 2 }
