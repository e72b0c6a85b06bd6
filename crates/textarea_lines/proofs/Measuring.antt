-- The number of visual rows at a width: of the current rows, as measured last, and from scratch.
use Rattle.std.proofs.lemmas.Grind.{common_steps}
use Rattle.std.proofs.Common.{arith, ◌≡◌, ℕ, true, List, length, String, Option, Some}
use Rattle.std.specs.Option.{IfSome}
use Rattle.textarea_text.specs.Text.{lines, lines_of}
use Rattle.textarea_screen_map.specs.declared.layout.Wrapping.{Wrapping}
use Rattle.textarea_blocks.specs.Sums.{row_total}
use Rattle.textarea_screen_map.specs.Map.{IsRowCount, MapView}
use Rattle.textarea_lines.specs.declared.rewrap.Measured.{Measured}
use Rattle.textarea_lines.specs.declared.settings.LayoutSettings.{LayoutSettings}
use Rattle.textarea_lines.specs.TextLayout.{Origins, TextAndLayout, wrapping_of}
use Rattle.textarea_lines.specs.Stored.{HoldsRows}
use Rattle.textarea_lines.specs.Wrappings.{wrapped_at_width, is_same_wrapping, wrapping_for}
use Rattle.textarea_lines.proofs.SameWraps.{AreRowsOf-same}
use Rattle.textarea_lines.proofs.Stores.{count_stored, lines_stored, right_rows, text_layout_of}

-- borrowed lines that are measured at a width, and how they are wrapped now
pub record Measuring {Z : Type 0} (o : Option Origins) (settings : LayoutSettings) (items borrowed_lines : List (String Z)) (size count inner_width : ℕ) (map : MapView) (text_layout : TextAndLayout) (wrapping now : Wrapping) : Type 0 where
  pub contents : HoldsRows settings items size map
  pub is : text_layout_of o settings items count map.rows ≡ text_layout
  pub borrowed_is : borrowed_lines ≡ items
  pub wrapping_is : wrapping ≡ wrapped_at_width settings inner_width (length borrowed_lines)
  pub now_is : now ≡ wrapping_for settings (length borrowed_lines)

-- what is counted of the borrowed lines is true of the text
pub counted_in_text :
    {Z : Type 0} {o : Option Origins} (settings : LayoutSettings) (items borrowed_lines : List (String Z)) (size count inner_width : ℕ) (map : MapView) (text_layout : TextAndLayout) (wrapping now : Wrapping) (n : ℕ)
    → Measuring o settings items borrowed_lines size count inner_width map text_layout wrapping now → IsRowCount wrapping (lines_of borrowed_lines) n
    → IsRowCount (wrapped_at_width text_layout.layout.settings inner_width (length (lines text_layout.text))) (lines text_layout.text) n
counted_in_text settings items borrowed_lines size count inner_width map text_layout wrapping now n m h =
    rw (← m.is, count_stored items m.contents.stored.some, lines_stored items m.contents.stored.some, ← m.borrowed_is, ← m.wrapping_is) h

-- if the lines are already wrapped in that way, their rows are the stored ones
pub counted_as_cached :
    {Z : Type 0} {o : Option Origins} (settings : LayoutSettings) (items borrowed_lines : List (String Z)) (size count inner_width : ℕ) (map : MapView) (text_layout : TextAndLayout) (wrapping now : Wrapping) (n : ℕ)
    → Measuring o settings items borrowed_lines size count inner_width map text_layout wrapping now → is_same_wrapping wrapping now ≡ true
    → n ≡ row_total map.rows → IsRowCount wrapping (lines_of borrowed_lines) n
counted_as_cached settings items borrowed_lines size count inner_width map text_layout wrapping now n m same e =
    (map.rows, AreRowsOf-same wrapping now (lines_of borrowed_lines) map.rows same (rw (m.now_is, m.borrowed_is) (right_rows settings items size map m.contents)), e)

-- whether they are already wrapped in that way, of the text and of the borrowed lines
pub same_as_cached :
    {Z : Type 0} {o : Option Origins} (settings : LayoutSettings) (items borrowed_lines : List (String Z)) (size count inner_width : ℕ) (map : MapView) (text_layout : TextAndLayout) (wrapping now : Wrapping)
    → Measuring o settings items borrowed_lines size count inner_width map text_layout wrapping now
    → is_same_wrapping (wrapped_at_width text_layout.layout.settings inner_width (length (lines text_layout.text))) (wrapping_of text_layout) ≡ is_same_wrapping wrapping now
same_as_cached settings items borrowed_lines size count inner_width map text_layout wrapping now m =
    rw (m.wrapping_is, m.now_is, m.borrowed_is, ← m.is, count_stored items m.contents.stored.some)

-- if they were measured last in that way, the number is that of the last time
pub counted_as_measured :
    {Z : Type 0} (items borrowed_lines : List (String Z)) (wrapping : Wrapping) (cached : Option Measured) (last : Measured) → borrowed_lines ≡ items
    → is_same_wrapping wrapping last.wrapping ≡ true → cached ≡ Some last → IfSome cached (λ was. IsRowCount was.wrapping (lines_of items) was.rows)
    → IsRowCount wrapping (lines_of borrowed_lines) last.rows
counted_as_measured items borrowed_lines wrapping cached last borrowed_is same is h = grind (arith, common_steps, AreRowsOf-same)

-- the number of rows of the text's lines, wrapped in that way
pub counted_from_scratch :
    {Z : Type 0} {o : Option Origins} (settings : LayoutSettings) (items borrowed_lines : List (String Z)) (size count inner_width : ℕ) (map : MapView) (text_layout : TextAndLayout) (wrapping now : Wrapping) (n : ℕ)
    → Measuring o settings items borrowed_lines size count inner_width map text_layout wrapping now → IsRowCount wrapping (lines text_layout.text) n
    → IsRowCount (wrapped_at_width text_layout.layout.settings inner_width (length (lines text_layout.text))) (lines text_layout.text) n
counted_from_scratch settings items borrowed_lines size count inner_width map text_layout wrapping now n m h =
    grind (arith, common_steps, lines_stored items m.contents.stored.some, counted_in_text)
