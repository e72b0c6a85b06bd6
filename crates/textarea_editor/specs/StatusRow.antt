-- How the words of the status row are drawn.
use Rattle.std.specs.Prelude.{◌≡◌, ◌<◌, ◌≤◌, ◌-◌, ℕ, Bool, List, [], ◌∷◌, min, nat_le}
use Rattle.std.specs.Option.{option_map}
use Rattle.textarea_editor.specs.Shortened.{text_columns}
use Rattle.textarea_editor.specs.StatusWords.{IsAskedBy, right_words}
use Rattle.textarea_editor.specs.declared.editor.Editor.{Editor}
use Rattle.textarea_paint.specs.Row.{row_cell}
use Rattle.textarea_paint.specs.declared.paint.row.RowArea.{RowArea}
use Rattle.textarea_screen.specs.Buffer.{cell_at}
use Rattle.textarea_screen.specs.Style.{empty_style, with_modifier}
use Rattle.textarea_screen.specs.Text.{LineView}
use Rattle.textarea_screen.specs.Text.ContentView.{OwnedBytes}
use Rattle.textarea_screen.specs.declared.screen.alignment.Alignment.TheVariants.{Left}
use Rattle.textarea_screen.specs.declared.screen.buffer.Buffer.{Buffer}
use Rattle.textarea_screen.specs.declared.screen.rect.Rect.{Rect}
use Rattle.textarea_screen.specs.declared.screen.style.Style.{Style}

-- reversed, which is the modifier 64
abbrev pub row_style : Style
row_style = with_modifier empty_style (record { 0 = 64 })

-- a line of words
abbrev pub line_of_words : List ℕ → LineView
line_of_words words = record { spans = record { content = OwnedBytes words; style = empty_style } ∷ []; style = empty_style }

-- whether a cell is in this column or after it
abbrev pub is_from : ℕ → ℕ → ℕ → Bool
is_from column x y = nat_le column x

-- words at the left of an area
abbrev pub at_left : Rect → RowArea
at_left area = record { area = area; left = 0; alignment = Left; style = row_style }

-- a part of a row: so many columns from this one on
pub record IsPart (row : Rect) (column columns : ℕ) (area : Rect) : Type 0 where
  pub column_is : area.x ≡ column
  pub row_is : area.y ≡ row.y
  pub width : area.width ≡ columns
  pub height : area.height ≡ row.height

-- the cells of an area between two columns are what drawing the words at its left makes
pub record IsSpelled (words : List ℕ) (begin end : ℕ) (area : Rect) (buffer : Buffer) : Type 0 where
  pub before : Buffer
  pub cells : (x : ℕ) → begin ≤ x → x < end →
      cell_at buffer x area.y ≡ option_map (row_cell (at_left area) area.y (line_of_words words) x area.y) (cell_at before x area.y)

-- the words are drawn in the part of a row from one column on up to another one, and its cells up to `end` are still those
pub record IsDrawnIn (words : List ℕ) (row : Rect) (from to end : ℕ) (buffer : Buffer) : Type 0 where
  pub area : Rect
  pub part : IsPart row from (to - from) area
  pub spelled : IsSpelled words from end area buffer

-- this row has the words of the left at its left, up to `begin`, and those of the right at its right, from `end` on, which have
-- all the columns that they take
pub record IsAskedBefore (editor : Editor) (row : Rect) (begin end : ℕ) (buffer : Buffer) : Type 0 where
  pub left : List ℕ
  pub asked : IsAskedBy editor.controls.focus editor row.width left
  pub right : List ℕ
  pub right_is : right ≡ right_words editor.controls.focus editor (row.width - text_columns left)
  pub end_is : end ≡ row.width - text_columns right
  pub begin_is : begin ≡ min (text_columns left) end
  pub left_drawn : IsDrawnIn left row 0 end begin buffer
  pub right_drawn : IsDrawnIn right row end row.width row.width buffer

pub record IsAskedInRow (editor : Editor) (row : Rect) (buffer : Buffer) : Type 0 where
  pub begin : ℕ
  pub end : ℕ
  pub asked : IsAskedBefore editor row begin end buffer

-- so has the status row, the last one, which is as wide as the screen
pub record IsAskedInLast (editor : Editor) (buffer : Buffer) : Type 0 where
  pub row : Rect
  pub column : row.x ≡ 0
  pub last : row.y ≡ editor.rows - 1
  pub width : row.width ≡ editor.columns
  pub height : row.height ≡ min editor.rows 1
  pub asked : IsAskedInRow editor row buffer
