-- Where the highlights of a row start and end, and the order of these borders.
use Rattle.std.specs.Prelude.{ℕ, ◌≤◌, Option, Some, List, [], ◌∷◌, ◌++◌, length, min, nat_lt, All, IsCharBoundary, IsPermutation, if◌then◌else◌}
use Rattle.std.specs.Fmt.Cut.{floor_char_boundary}
use Rattle.std.specs.Iterator.{YieldsThen}
use Rattle.std.specs.declared.cmp.Ordering.{Ordering}
use Rattle.std.specs.Ordering.{nat_cmp, ordering_then}
use Rattle.std.specs.List.Sorted.{IsSortedByKey, IsStableByKey}
use Rattle.textarea_screen.specs.declared.screen.style.Style.{Style}
use Rattle.textarea_highlight.specs.declared.highlight.borders.Border.{Border}
use Rattle.textarea_highlight.specs.declared.highlight.borders.BorderEffect.TheVariants.{Start, End}

-- the offset clipped to the row, then rounded down to the start of a character or the row's end
abbrev pub rounded_down : List ℕ → ℕ → ℕ
rounded_down row offset = floor_char_boundary row (min offset (length row))

-- a highlight's start at one offset, and its end, of rank 0, at another
abbrev pub start_and_end : ℕ → ℕ → Style → ℕ → List Border
start_and_end from to style rank =
    record { offset = from; rank = rank; mark = Start style } ∷ record { offset = to; rank = 0; mark = End } ∷ []

-- the borders of a highlight between two offsets; none if no character is between them
abbrev pub highlight_borders : List ℕ → ℕ → ℕ → Style → ℕ → List Border
highlight_borders row from to style rank =
    if nat_lt (rounded_down row from) (rounded_down row to) then start_and_end (rounded_down row from) (rounded_down row to) style rank else []

-- the rank of a match's highlight
abbrev pub search_rank : ℕ
search_rank = 20

-- the borders of matches, each given by the bytes at which it begins and ends
abbrev pub match_borders : List ℕ → List (ℕ × ℕ) → Style → List Border
match_borders row [] style = []
match_borders row (found ∷ others) style =
    highlight_borders row found.0 found.1 style search_rank ++ match_borders row others style

-- no character of the row is between the two offsets of a highlight, so it has no borders
abbrev pub IsEmptyAt : List ℕ → ℕ → ℕ → Type 0
IsEmptyAt row from to = rounded_down row to ≤ rounded_down row from

-- each match that an iterator yields covers no character of the row
abbrev pub MarkNothing : {S : Type 0} → (S → Option (ℕ × ℕ) → S → Type 0) → S → List ℕ → Type 0
MarkNothing {S} steps matches row =
    (before : List (ℕ × ℕ)) (found : ℕ × ℕ) (rest : S) → YieldsThen steps matches before (Some found) rest → IsEmptyAt row found.0 found.1

-- the offset of a border, and its rank there
abbrev pub border_key : Border → ℕ × ℕ
border_key border = (border.offset, border.rank)

-- each border is where a character of the row starts, or where the row ends
abbrev pub ArePlaced : List ℕ → List Border → Type 0
ArePlaced row borders = All (λ border. IsCharBoundary row border.offset) borders

-- the same of only those up to the row's end
abbrev pub ArePlacedWithin : List ℕ → List Border → Type 0
ArePlacedWithin row borders = All (λ border. border.offset ≤ length row → IsCharBoundary row border.offset) borders

-- by offset, then by rank
abbrev pub border_cmp : ℕ × ℕ → ℕ × ℕ → Ordering
border_cmp a b = ordering_then (nat_cmp a.0 b.0) (nat_cmp a.1 b.1)

-- the borders in order; those of one offset and one rank are as they were added
pub record IsBorderOrder (added sorted : List Border) : Type 0 where
  pub same : IsPermutation added sorted
  pub in_order : IsSortedByKey border_key border_cmp sorted
  pub stable : IsStableByKey border_key border_cmp added sorted
