-- A log that is scrolled by keys.
use Rattle.std.specs.Prelude.{◌≡◌, pos, negsuc, Option, None, Some}
use Rattle.textarea_data.specs.declared.input.Key.{Key}
use Rattle.textarea_data.specs.declared.input.Key.TheVariants as key
use Rattle.textarea_data.specs.declared.scroll.Scrolling.{Scrolling}
use Rattle.textarea_data.specs.declared.scroll.Scrolling.TheVariants as scrolling
use Rattle.tui_textarea.specs.Moves.{IsScrolled}
use Rattle.tui_textarea.specs.State.{State}

-- how far the key scrolls, if it does: a row down or up, or a page down or up
abbrev pub scrolling_by : Key → Option Scrolling
scrolling_by key.Down = Some (scrolling.Delta (pos 1) (pos 0))
scrolling_by key.Up = Some (scrolling.Delta (negsuc 0) (pos 0))
scrolling_by key.PageDown = Some scrolling.PageDown
scrolling_by key.PageUp = Some scrolling.PageUp
scrolling_by other = None

-- the text area is scrolled, or left as it is
abbrev pub IsScrolledBy : Option Scrolling → State → State → Type 0
IsScrolledBy None old new = new ≡ old
IsScrolledBy (Some amount) old new = IsScrolled old amount new
