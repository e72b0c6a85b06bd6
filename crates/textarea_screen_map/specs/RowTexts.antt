-- A visual row as the look-up returns it.
use Rattle.std.specs.Prelude.{◌≡◌, ℕ, ◌+◌, ◌<◌, List, [], length, take, chars, encode_utf8_all, get_or, slice_index_or}
use Rattle.textarea_util.specs.Limit.{size_limit}
use Rattle.textarea_wrap.specs.RowsView.{RowsView}
use Rattle.textarea_blocks.specs.Sums.{row_total}
use Rattle.textarea_screen_map.specs.VisualRows.{VisualRow, row_at}
use Rattle.textarea_screen_map.specs.declared.screen_map.look_up.RowText.{RowText}

-- the visual row that these texts are: it begins after `before`, in bytes and in characters
abbrev pub row_of_texts : RowText → VisualRow
row_of_texts row = record {
  line = row.line;
  start = length row.before.now;
  first = length (chars row.before.now);
  text = chars row.text.now;
  is_last = row.is_last;
}

-- `before` is the text of the line before the row, and not only a text of that length
abbrev pub HasFrontOfLine : List (List ℕ) → RowText → Type 0
HasFrontOfLine lines row = row.before.now ≡ take (length row.before.now) (encode_utf8_all (slice_index_or lines row.line []))

-- The texts are those of the visual row of this number, and tell its line and its index there. The
-- row's text that is as long as its line is the line.
pub record IsRowText (lines : List (List ℕ)) (rows : List RowsView) (row : ℕ) (texts : RowText) : Type 0 where
  pub displayed : row_of_texts texts ≡ row_at lines rows row
  pub number : row_total (take texts.line rows) + texts.number ≡ row
  pub line : texts.line < length rows
  pub front : HasFrontOfLine lines texts
  pub whole : length texts.text.now ≡ length (encode_utf8_all (get_or lines texts.line [])) → texts.text.now ≡ encode_utf8_all (get_or lines texts.line [])
  pub before : length texts.before.now < size_limit
  pub short : length texts.text.now < size_limit
