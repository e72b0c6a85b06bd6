-- The line number in front of a row.
use Rattle.std.specs.Prelude.{ℕ, ◌+◌, ◌-◌, List, ◌++◌, length, replicate, codes}
use Rattle.std.specs.Fmt.{decimal}
use Rattle.textarea_screen.specs.declared.screen.style.Style.{Style}
use Rattle.textarea_screen.specs.Text.{SpanView}
use Rattle.textarea_screen.specs.Text.ContentView.{BorrowedBytes, OwnedBytes}

abbrev pub spaces : ℕ → List ℕ
spaces count = replicate count 32

-- the number at the right of a field of `width` columns, and a space on each side of the field
abbrev pub number_text : ℕ → ℕ → List ℕ
number_text number width = spaces (width + 1 - length (decimal number)) ++ decimal number ++ codes " "

-- the span of the line with this index, where the first line is number 1
abbrev pub number_span : ℕ → ℕ → Style → SpanView
number_span row width style = record { content = OwnedBytes (number_text (row + 1) width); style = style }

-- spaces of the width of a line number
abbrev pub placeholder_span : ℕ → Style → SpanView
placeholder_span width style = record { content = BorrowedBytes (spaces (width + 2)); style = style }
