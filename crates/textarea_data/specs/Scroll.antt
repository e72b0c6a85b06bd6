-- A number of rows and one of columns, as an amount of scrolling.
use Rattle.std.specs.Prelude.{ℤ}
use Rattle.textarea_data.specs.declared.scroll.Scrolling.{Scrolling}
use Rattle.textarea_data.specs.declared.scroll.Scrolling.TheVariants.{Delta}

-- scrolls by the first number in rows, and by the second in columns
abbrev pub delta_of : ℤ × ℤ → Scrolling
delta_of amounts = Delta amounts.0 amounts.1
