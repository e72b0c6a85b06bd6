-- The visual rows of the lines of a text.
use Rattle.std.specs.Prelude.{◌≡◌, ℕ, ◌+◌, ◌<◌, max, true, length, map, List, [], ◌∷◌, encode_utf8_all}
use Rattle.std.specs.List.{range_with_len}
use Rattle.std.specs.Str.{all_scalars}
use Rattle.textarea_util.specs.Limit.{size_limit}
use Rattle.textarea_wrap.specs.Marks.{marks_of}
use Rattle.textarea_wrap.specs.RowsView.{RowsView}
use Rattle.textarea_wrap.specs.WrapResult.{IsWrapped}
use Rattle.textarea_screen_map.specs.declared.layout.Wrapping.{Wrapping}

-- The rows of one line, given by its characters, are right. The characters are Unicode scalar
-- values, and have fewer than 2^48 bytes in all. `IsWrapped` is about the line's bytes. In the mode
-- `None` a line is one row at any width. A width of 0 counts as 1. The marks are those of the rows.
pub record AreRowsOfLine (wrapping : Wrapping) (line : List ℕ) (rows : RowsView) : Type 0 where
  pub characters : all_scalars line ≡ true
  pub short : length (encode_utf8_all line) < size_limit
  pub wrapped : IsWrapped wrapping.mode wrapping.tab_len (max wrapping.width 1) (encode_utf8_all line) rows.ranges
  pub marked : rows.marks ≡ marks_of (encode_utf8_all line) rows.ranges

-- the same wrapping with this number of columns between tab stops
abbrev pub with_tab_len : Wrapping → ℕ → Wrapping
with_tab_len wrapping tab_len = record { mode = wrapping.mode; width = wrapping.width; tab_len = tab_len }

-- the rows are those of these lines, one element for each line
abbrev pub AreRowsOf : Wrapping → List (List ℕ) → List RowsView → Type 0
AreRowsOf wrapping [] [] = Unit {0}
AreRowsOf wrapping [] (rows ∷ rest) = ⊥
AreRowsOf wrapping (line ∷ lines) [] = ⊥
AreRowsOf wrapping (line ∷ lines) (rows ∷ rest) = AreRowsOfLine wrapping line rows × AreRowsOf wrapping lines rest

-- for each line, the counter's number after the call that wrapped it
abbrev pub ticks_of : List RowsView → List ℕ
ticks_of rows = map (λ (r : RowsView). r.tick) rows

-- the numbers after each of `size` successive calls, when `count` is the number before them
abbrev pub ticks_after : ℕ → ℕ → List ℕ
ticks_after count size = range_with_len (count + 1) size
