-- Which of several starts is open, when each end closes one.
use Rattle.std.specs.Prelude.{◌≡◌, ◌⊎◌, ℕ, suc, ◌<◌, ◌≤◌, Bool, true, false, List, take, drop, count_by, Some}
use Rattle.std.specs.List.{slice_get}
use Rattle.textarea_screen.specs.declared.screen.style.Style.{Style}
use Rattle.textarea_highlight.specs.declared.highlight.borders.BorderEffect.{BorderEffect}
use Rattle.textarea_highlight.specs.declared.highlight.borders.BorderEffect.TheVariants.{Start, End}

abbrev pub is_start : BorderEffect → Bool
is_start (Start style) = true
is_start End = false

abbrev pub is_end : BorderEffect → Bool
is_end (Start style) = false
is_end End = true

-- no prefix of the marks has more ends than starts
abbrev pub StaysOpen : List BorderEffect → Type 0
StaysOpen marks = (n : ℕ) → count_by is_end (take n marks) ≤ count_by is_start (take n marks)

-- the mark at `i` starts this style, and the marks after it leave it open
abbrev pub OpensAt : List BorderEffect → ℕ → Style → Type 0
OpensAt marks i style = (slice_get marks i ≡ Some (Start style)) × StaysOpen (drop (suc i) marks)

-- the last open start is one of this style
abbrev pub OpensLast : List BorderEffect → Style → Type 0
OpensLast marks style =
    (i : ℕ) × OpensAt marks i style × ((k : ℕ) (other : Style) → i < k → ¬ (OpensAt marks k other))

-- each start is closed
abbrev pub OpensNone : List BorderEffect → Type 0
OpensNone marks = (k : ℕ) (other : Style) → ¬ (OpensAt marks k other)

-- the style after these marks: that of the last open start, or the base
abbrev pub IsStyleAfter : List BorderEffect → Style → Style → Type 0
IsStyleAfter marks base style = OpensLast marks style ⊎ (OpensNone marks × (style ≡ base))
