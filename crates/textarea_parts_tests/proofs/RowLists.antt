-- The visual rows of lines, counted line by line.
use Rattle.std.proofs.Common.{◌≡◌, ◌∙◌, ℕ, ◌+◌, List, ◌++◌, String, ap, drop, length, map, subst, sym, take}
use Rattle.std.proofs.lemmas.List.{drop-map, length-map, map-append, take-map}
use Rattle.textarea_util.specs.Replaced.{replaced}
use Rattle.textarea_text.specs.Text.{characters_of, lines_of}
use Rattle.textarea_wrap.specs.RowsView.{RowsView}
use Rattle.textarea_screen_map.specs.declared.layout.Wrapping.{Wrapping}
use Rattle.textarea_screen_map.specs.LineRows.{AreRowsOf}
use Rattle.textarea_screen_map.proofs.Layouts.{AreRowsOf-replaced, length-AreRowsOf}

pub one_list_a_line : {Z : Type 0} (w : Wrapping) (lines : List (String Z)) (rows : List RowsView) → AreRowsOf w (lines_of lines) rows → length rows ≡ length lines
one_list_a_line w lines rows h = length-AreRowsOf w (lines_of lines) rows h ∙ length-map lines characters_of

lines_replaced : {Z : Type 0} (items new : List (String Z)) (row count : ℕ) → lines_of (replaced items row count new) ≡ replaced (lines_of items) row count (lines_of new)
lines_replaced items new row count =
    map-append characters_of (take row items) (new ++ drop (row + count) items)
    ∙ ap (λ t. map characters_of (take row items) ++ t) (map-append characters_of new (drop (row + count) items))
    ∙ ap (λ t. t ++ (lines_of new ++ lines_of (drop (row + count) items))) (sym (take-map characters_of row items))
    ∙ ap (λ t. take row (lines_of items) ++ (lines_of new ++ t)) (sym (drop-map characters_of (row + count) items))

-- lines replace others, and their visual rows replace those of the others
pub rows_replaced : {Z : Type 0} (w : Wrapping) (old new borrowed after : List (String Z)) (row count at number : ℕ) (was retained others now : List RowsView)
    → AreRowsOf w (lines_of old) was → AreRowsOf w (lines_of borrowed) others → borrowed ≡ new → retained ≡ was → at ≡ row → number ≡ count → now ≡ replaced retained at number others
    → after ≡ replaced old row count new → AreRowsOf w (lines_of after) now
rows_replaced w old new borrowed after row count at number was retained others now h k borrowed_is rest_is at_is number_is now_is after_is =
    let changed = AreRowsOf-replaced w (lines_of old) (lines_of new) was others row count h (subst (λ (t : List (String _)). AreRowsOf w (lines_of t) others) borrowed_is k) in
    let rows_are : now ≡ replaced was row count others = now_is ∙ ap (λ (r : List RowsView). replaced r at number others) rest_is ∙ ap (λ n. replaced was n number others) at_is ∙ ap (λ n. replaced was row n others) number_is in
    subst (λ (t : List (String _)). AreRowsOf w (lines_of t) now) (sym after_is)
    (subst (λ (r : List RowsView). AreRowsOf w (lines_of (replaced old row count new)) r) (sym rows_are)
    (subst (λ (t : List (List ℕ)). AreRowsOf w t (replaced was row count others)) (sym (lines_replaced old new row count)) changed))
