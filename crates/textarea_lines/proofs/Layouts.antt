-- Rows of lines and their ticks, as lines are replaced.
use Rattle.std.proofs.lemmas.Grind.{common_steps}
use Rattle.std.proofs.Common.{◌≡◌, ℕ, ◌+◌, List, [], ◌++◌, length, take, drop, map, ap, ◌∙◌, arith, String}
use Rattle.std.proofs.lemmas.List.{append_assoc, append-nil, drop_all, map-append, take-map, drop-map}
use Rattle.textarea_util.specs.Replaced.{replaced}
use Rattle.textarea_text.specs.Text.{lines_of}
use Rattle.textarea_wrap.specs.RowsView.{RowsView}
use Rattle.textarea_screen_map.specs.declared.layout.Wrapping.{Wrapping}
use Rattle.textarea_screen_map.specs.LineRows.{AreRowsOf, ticks_after}
use Rattle.textarea_screen_map.proofs.Layouts.{ticks_append}

-- ---- items that are replaced

pub map-replaced : {X Y : Type 0} (f : X → Y) (items new : List X) (row count : ℕ) → map f (replaced items row count new) ≡ replaced (map f items) row count (map f new)
map-replaced f items new row count = simp (map-append, take-map, drop-map)

-- all items are replaced
pub replaced_whole : {X : Type 0} (items new : List X) (n : ℕ) → length items ≡ n → replaced items 0 n new ≡ new
replaced_whole items new n e = ap (λ t. new ++ t) (drop_all (0 + n) items (omega arith)) ∙ append-nil new

-- rows that were wrapped in three steps: above, of the new lines, and below
pub rows_together :
    {Z : Type 0} (w : Wrapping) (items new above borrowed_lines below : List (String Z)) (row count : ℕ) (rows : List RowsView)
    → above ≡ take row items → borrowed_lines ≡ new → below ≡ drop (row + count) items
    → AreRowsOf w ((lines_of above ++ lines_of borrowed_lines) ++ lines_of below) rows → AreRowsOf w (lines_of (replaced items row count new)) rows
rows_together w items new above borrowed_lines below row count rows a l b k =
    simp (map-append, ← a, ← l, ← b) (simp append_assoc at k)

pub ticks_together :
    (t t' t'' t''' : List ℕ) (count first second a b d size : ℕ) → t ≡ [] → t' ≡ t ++ ticks_after count a → first ≡ count + a
    → t'' ≡ t' ++ ticks_after first b → second ≡ first + b → t''' ≡ t'' ++ ticks_after second d → a + b + d ≡ size → t''' ≡ ticks_after count size
ticks_together t t' t'' t''' count first second a b d size none e1 c1 e2 c2 e3 sum =
    grind (arith, common_steps, ticks_append count a b, ticks_append count (a + b) d)
