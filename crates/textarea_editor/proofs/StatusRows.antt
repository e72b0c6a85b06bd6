-- Lemmas on the status row.
use Rattle.std.proofs.Common.{◌≡◌, ◌<◌, ◌≤◌, ◌+◌, ◌∙◌, ℕ, Bool, false, List, Option, None, Some, refl, sym, ap, subst, arith}
use Rattle.std.proofs.lemmas.Bool.Decides.{nat_tests}
use Rattle.std.specs.Option.{option_map}
use Rattle.textarea_editor.specs.StatusRow.{IsAskedBefore, IsAskedInRow, IsDrawnIn, IsSpelled, at_left, is_from, line_of_words}
use Rattle.textarea_editor.specs.declared.editor.Editor.{Editor}
use Rattle.textarea_paint.proofs.RowAreaLemmas.{row_cell-outside}
use Rattle.textarea_paint.specs.Row.{row_cell}
use Rattle.textarea_paint.specs.declared.paint.row.RowArea.{RowArea}
use Rattle.textarea_screen.specs.Buffer.{Changes, KeepsOutside, cell_at}
use Rattle.textarea_screen.specs.Cell.{CellView}
use Rattle.textarea_screen.specs.Rect.{contains, is_in_row}
use Rattle.textarea_screen.specs.Text.{LineView}
use Rattle.textarea_screen.specs.declared.screen.buffer.Buffer.{Buffer}
use Rattle.textarea_screen.specs.declared.screen.rect.Rect.{Rect}

-- the words are drawn
pub spelled_now : (words : List ℕ) (begin end : ℕ) (area : Rect) (old new : Buffer) → Changes old new (row_cell (at_left area) area.y (line_of_words words)) → IsSpelled words begin end area new
spelled_now words begin end area old new changes = record { before = old; cells = λ x b h. changes.cells x area.y }

-- other cells are changed after that
spelled_outside : (words : List ℕ) (begin end : ℕ) (area : Rect) (test : ℕ → ℕ → Bool) (old new : Buffer) → KeepsOutside test old new →
    ((x : ℕ) → begin ≤ x → x < end → test x area.y ≡ false) → IsSpelled words begin end area old → IsSpelled words begin end area new
spelled_outside words begin end area test old new keeps other spelled =
    record { before = spelled.before; cells = λ x b h. keeps.cells x area.y (other x b h) ∙ spelled.cells x b h }

-- the same for words in a part of a row
pub drawn_outside : (words : List ℕ) (row : Rect) (from to end : ℕ) (test : ℕ → ℕ → Bool) (old new : Buffer) → KeepsOutside test old new →
    ((x : ℕ) → from ≤ x → x < end → test x row.y ≡ false) → IsDrawnIn words row from to end old → IsDrawnIn words row from to end new
drawn_outside words row from to end test old new keeps other drawn =
    record {
      area = drawn.area;
      part = drawn.part;
      spelled = spelled_outside words from end drawn.area test old new keeps
          (λ x b h. subst (λ (y : ℕ). test x y ≡ false) (sym drawn.part.row_is) (other x b h)) drawn.spelled;
    }

same_option : (change : CellView → CellView) (cell : Option CellView) → ((c : CellView) → change c ≡ c) → option_map change cell ≡ cell
same_option change None h = refl
same_option change (Some cell) h = ap Some (h cell)

-- a drawn row changes no cell outside of it
row_keeps : (rows : RowArea) (y : ℕ) (line : LineView) (old new : Buffer) → Changes old new (row_cell rows y line) → KeepsOutside (is_in_row rows.area y) old new
row_keeps rows y line old new changes =
    record {
      area = changes.area;
      cells = λ x row h. changes.cells x row ∙ same_option (row_cell rows y line x row) (cell_at old x row) (λ c. row_cell-outside rows y line x row c h);
    }

-- other cells than those of the words are changed
pub asked_outside : (editor : Editor) (row : Rect) (begin end : ℕ) (test : ℕ → ℕ → Bool) (old new : Buffer) → KeepsOutside test old new →
    ((x : ℕ) → x < begin → test x row.y ≡ false) → ((x : ℕ) → end ≤ x → test x row.y ≡ false) → IsAskedBefore editor row begin end old → IsAskedBefore editor row begin end new
asked_outside editor row begin end test old new keeps left right asked =
    record {
      left = asked.left;
      asked = asked.asked;
      right = asked.right;
      right_is = asked.right_is;
      end_is = asked.end_is;
      begin_is = asked.begin_is;
      left_drawn = drawn_outside asked.left row 0 end begin test old new keeps (λ x b h. left x h) asked.left_drawn;
      right_drawn = drawn_outside asked.right row end row.width row.width test old new keeps (λ x b h. right x b) asked.right_drawn;
    }

-- a cell that isn't from a column on isn't in a row of an area from there on
before_area : (area : Rect) (row column x y : ℕ) → column ≤ area.x → is_from column x y ≡ false → is_in_row area row x y ≡ false
before_area area row column x y le before = grind (arith, nat_tests)

-- a row that is drawn from a column on changes no cell before it
pub row_keeps_before : (rows : RowArea) (y column : ℕ) (line : LineView) (old new : Buffer) → column ≤ rows.area.x →
    Changes old new (row_cell rows y line) → KeepsOutside (is_from column) old new
row_keeps_before rows y column line old new le changes =
    let keeps = row_keeps rows y line old new changes in
    record { area = keeps.area; cells = λ x row before. keeps.cells x row (before_area rows.area y column x row le before) }

pub before_column : (end column x y : ℕ) → end ≤ column → x < end → is_from column x y ≡ false
before_column end column x y le lt = grind (arith, nat_tests)

before_field : (area : Rect) (x y : ℕ) → x < area.x → contains area x y ≡ false
before_field area x y lt = grind (arith, nat_tests)

after_field : (area : Rect) (x y : ℕ) → area.x + area.width ≤ x → contains area x y ≡ false
after_field area x y le = grind (arith, nat_tests)

-- the words are in the row
pub asked_here : (editor : Editor) (row : Rect) (begin end : ℕ) (buffer : Buffer) → IsAskedBefore editor row begin end buffer → IsAskedInRow editor row buffer
asked_here editor row begin end buffer asked = record { begin = begin; end = end; asked = asked }

-- the prompt's text is drawn between the words
pub asked_beside : (editor : Editor) (row field : Rect) (old new : Buffer) → KeepsOutside (contains field) old new → IsAskedBefore editor row field.x (field.x + field.width) old →
    IsAskedInRow editor row new
asked_beside editor row field old new keeps asked = record {
  begin = field.x;
  end = field.x + field.width;
  asked = asked_outside editor row field.x (field.x + field.width) (contains field) old new keeps (λ x h. before_field field x row.y h) (λ x h. after_field field x row.y h) asked;
}

-- a cell below an area isn't in it
pub below_area : (area : Rect) (x y : ℕ) → area.y + area.height ≤ y → contains area x y ≡ false
below_area area x y le = grind (arith, nat_tests)
