-- Lines with their rows, after some of them are replaced.
use Rattle.std.proofs.lemmas.Grind.{common_steps}
use Rattle.std.proofs.Common.{◌≡◌, ℕ, ◌+◌, ◌-◌, ◌≤◌, ◌<◌, Bool, true, false, cond, List, Option, None, length, sym, ap, ◌∙◌, arith, String}
use Rattle.std.proofs.lemmas.List.{length-map}
use Rattle.textarea_util.specs.Limit.{size_limit}
use Rattle.textarea_text.specs.Place.{inserted, removed}
use Rattle.textarea_util.specs.Replaced.{replaced}
use Rattle.textarea_text.specs.Size.{weight}
use Rattle.textarea_text.specs.Splice.{Splice, Allows, Fits, applied}
use Rattle.textarea_text.specs.Text.{Symbol, characters_of, joined, lines, lines_of, text_of}
use Rattle.textarea_text.specs.Touched.{IsReplacementFor}
use Rattle.textarea_text.specs.declared.rows.Replacement.{Replacement}
use Rattle.std.specs.declared.alloc.Global.{Global}
use Rattle.textarea_util.proofs.Replacing.{length-replaced}
use Rattle.textarea_text.proofs.Sizes.{size_of_text, weight_inserted, weight_removed}
use Rattle.textarea_wrap.specs.RowsView.{RowsView}
use Rattle.textarea_screen_map.specs.declared.layout.Wrapping.{Wrapping}
use Rattle.textarea_screen_map.specs.LineRows.{AreRowsOf, ticks_after, ticks_of, with_tab_len}
use Rattle.textarea_screen_map.specs.Map.{MapView}
use Rattle.textarea_lines.specs.declared.settings.LayoutSettings.{LayoutSettings}
use Rattle.textarea_lines.specs.TextLayout.{Origins, TextAndLayout, layout_from_scratch, layout_of, after_replacement, lines_spliced, replaced_in, wrapping_of}
use Rattle.textarea_lines.specs.Stored.{IsStored, HoldsRows}
use Rattle.textarea_lines.specs.Wrappings.{is_same_wrapping, is_wrapped, wrapping_for}
use Rattle.textarea_lines.proofs.Layouts.{map-replaced}
use Rattle.textarea_lines.proofs.SameWraps.{same_whole, same_wrapped}
use Rattle.textarea_lines.proofs.Stores.{count_stored, lines_stored, text_layout_of}

-- the text of the new lines
pub text_replaced : {Z : Type 0} (items new : List (String Z)) (row count : ℕ) → 0 < length items → text_of (replaced items row count new) ≡ joined (replaced (lines (text_of items)) row count (lines_of new))
text_replaced items new row count some =
    ap joined (map-replaced characters_of items new row count ∙ ap (λ t. replaced t row count (lines_of new)) (sym (lines_stored items some)))

-- the lines before and after a replacement
pub record Replacing {Z : Type 0} (old now new : List (String Z)) (row count : ℕ) : Type 0 where
  pub some : 0 < length old
  pub now_is : now ≡ replaced old row count new
  pub within : row + count ≤ length old
  pub new_some : 0 < length new

pub text_now : {Z : Type 0} (old now new : List (String Z)) (row count : ℕ) → Replacing old now new row count → text_of now ≡ joined (replaced (lines (text_of old)) row count (lines_of new))
text_now old now new row count h = ap text_of h.now_is ∙ text_replaced old new row count h.some

pub some_now : {Z : Type 0} (old now new : List (String Z)) (row count : ℕ) → Replacing old now new row count → 0 < length now
some_now old now new row count h =
    omega (arith, ap length h.now_is, length-replaced old row count new h.within, h.within, h.new_some)

pub holds_replaced :
    {Z : Type 0} (settings : LayoutSettings) (old now new : List (String Z)) (row count size n : ℕ) (map : MapView) → Replacing old now new row count
    → n ≡ length new → map.wrapping ≡ wrapping_for settings (length old - count + n) → AreRowsOf map.wrapping (lines_of (replaced old row count new)) map.rows
    → size ≡ weight (joined (replaced (lines (text_of old)) row count (lines_of new))) + 1 → size ≤ size_limit → HoldsRows settings now size map
holds_replaced settings old now new row count size n map h n_is wrapping right size_is limit =
    let long : length now ≡ length old - count + n = omega (arith, ap length h.now_is, length-replaced old row count new h.within, h.within, n_is) in
    let some = some_now old now new row count h in
    record {
      stored = record { some = some; size_is = omega (arith, size_is, size_of_text now some, ap weight (text_now old now new row count h)); limit = limit };
      wrapping_is = wrapping ∙ ap (wrapping_for settings) (sym long);
      text_layout = rw h.now_is right;
    }

pub layout_replaced :
    {Z : Type 0} {o : Option Origins} (settings : LayoutSettings) (old now new : List (String Z)) (row count n before after : ℕ) (first rows : List RowsView) → Replacing old now new row count → n ≡ length new
    → layout_of settings after rows o ≡ after_replacement (layout_of settings before first o) (length old) row count n
    → text_layout_of o settings now after rows ≡ replaced_in (text_layout_of o settings old before first) row count (lines_of new)
layout_replaced settings old now new row count n before after first rows h n_is layout =
    cc (text_now old now new row count h, count_stored old h.some, length-map new characters_of)

-- ---- a change

-- a replacement that makes a splice of the lines makes it of the text
pub made :
    (text_layout : TextAndLayout) (items borrowed_lines : List (String Global)) (replacement : Replacement) (splice : Splice) → 0 < length items
    → text_of items ≡ text_layout.text → borrowed_lines ≡ items → IsReplacementFor borrowed_lines splice replacement
    → replaced_in text_layout replacement.row replacement.count (lines_of replacement.lines.items) ≡ lines_spliced text_layout splice
made text_layout items borrowed_lines replacement splice some is borrowed_is h = grind (arith, common_steps, text_replaced, length-map)

-- the size after a change
pub size_made :
    {Z : Type 0} (items : List (String Z)) (text : List Symbol) (size after : ℕ) (splice : Splice) → IsStored items size → text_of items ≡ text
    → Fits text splice → after ≡ cond splice.inserts (size + weight splice.symbols) (size - weight splice.symbols) → after ≡ weight (applied text splice) + 1
size_made items text size after splice stored is fits after_is =
    by splice.inserts (stored.size_is ∙ size_of_text items stored.some ∙ ap (λ t. weight t + 1) is) fits.allowed after_is
  where
    by :
        (b : Bool) → size ≡ weight text + 1 → Allows b text splice.place splice.symbols → after ≡ cond b (size + weight splice.symbols) (size - weight splice.symbols)
        → after ≡ weight (cond b (inserted text splice.place splice.symbols) (removed text splice.place splice.symbols)) + 1
    by true was allowed e = omega (arith, was, e, weight_inserted text splice.place splice.symbols)
    by false was allowed e = omega (arith, was, e, weight_removed text splice.place splice.symbols allowed)

-- ---- all lines

-- some lines, all of which are wrapped
pub wrapped_new :
    {Z : Type 0} (settings : LayoutSettings) (items borrowed_lines : List (String Z)) (old count : ℕ) (rows : List RowsView) → 0 < length items
    → borrowed_lines ≡ items → count ≡ old + length borrowed_lines → ticks_of rows ≡ ticks_after old (length borrowed_lines)
    → text_layout_of None settings items count rows ≡ layout_from_scratch settings old (text_of items)
wrapped_new settings items borrowed_lines old count rows some borrowed_is counted ticks =
    cc (count_stored items some)

-- how lines are wrapped under old and new settings
pub record Reviewing {Z : Type 0} (o : Option Origins) (old settings : LayoutSettings) (items : List (String Z)) (count : ℕ) (rows : List RowsView) (text_layout : TextAndLayout) (before after : Wrapping) : Type 0 where
  pub some : 0 < length items
  pub is : text_layout_of o old items count rows ≡ text_layout
  pub before_is : before ≡ wrapping_for old (length items)
  pub after_is : after ≡ wrapping_for settings (length items)

pub test_is :
    {Z : Type 0} {o : Option Origins} (old settings : LayoutSettings) (items : List (String Z)) (count : ℕ) (rows : List RowsView) (text_layout : TextAndLayout) (before after : Wrapping)
    → Reviewing o old settings items count rows text_layout before after
    → is_same_wrapping (wrapping_for settings (length (lines text_layout.text))) (wrapping_of text_layout) ≡ is_same_wrapping after before
test_is old settings items count rows text_layout before after h =
    rw (← h.is, count_stored items h.some, h.after_is, h.before_is)

-- if lines are wrapped as before, their rows remain right: those of whole lines at other tab stops
pub holds_wrapped :
    {Z : Type 0} (old settings : LayoutSettings) (items : List (String Z)) (size : ℕ) (map : MapView) → is_wrapped settings ≡ true
    → is_same_wrapping (wrapping_for settings (length items)) map.wrapping ≡ true → HoldsRows old items size map → HoldsRows settings items size map
holds_wrapped old settings items size map wrapped same k =
    record { stored = k.stored; wrapping_is = same_wrapped settings (length items) map.wrapping wrapped same; text_layout = k.text_layout }

pub holds_whole :
    {Z : Type 0} (old settings : LayoutSettings) (items : List (String Z)) (size : ℕ) (map now : MapView) → is_wrapped settings ≡ false
    → is_same_wrapping (wrapping_for settings (length items)) map.wrapping ≡ true → HoldsRows old items size map
    → now.wrapping ≡ with_tab_len map.wrapping settings.tab_len → AreRowsOf now.wrapping (lines_of items) now.rows → HoldsRows settings items size now
holds_whole old settings items size map now whole same k wrapping_is right =
    record { stored = k.stored; wrapping_is = wrapping_is ∙ same_whole old settings (length items) map.wrapping k.wrapping_is whole same; text_layout = right }
