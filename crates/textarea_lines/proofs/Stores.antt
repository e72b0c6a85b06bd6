-- Stored lines: limits of positions, when the text is empty, and the size after a change.
use Rattle.std.proofs.lemmas.Grind.{common_steps}
use Rattle.std.proofs.Common.{◌≡◌, ℕ, zero, suc, ◌+◌, ◌<◌, ◌≤◌, true, false, cond, List, [], ◌∷◌, length, sym, ap, refl, ◌∙◌, arith, get_or, subst, String, string_bytes, encode_utf8_all, Option}
use Rattle.std.proofs.lemmas.Str.{IsUtf8-string_bytes, length-le-encodes, encodes-chars}
use Rattle.std.proofs.lemmas.List.{length-map}
use Rattle.textarea_util.specs.Limit.{size_limit}
use Rattle.textarea_text.specs.Text.{characters_of, joined, lines, lines_of, text_of}
use Rattle.textarea_text.specs.Place.{Place, IsPlace}
use Rattle.textarea_text.specs.Size.{size_of, weight}
use Rattle.textarea_text.proofs.Sizes.{length-le-size_of, size_of_text}
use Rattle.textarea_text.proofs.Splices.{lines-joined}
use Rattle.textarea_text.proofs.StringRows.{row_within, rows_place}
use Rattle.textarea_wrap.specs.RowsView.{RowsView}
use Rattle.textarea_screen_map.specs.LineRows.{AreRowsOf}
use Rattle.textarea_screen_map.specs.declared.layout.Wrapping.{Wrapping}
use Rattle.textarea_screen_map.specs.Map.{MapView}
use Rattle.textarea_lines.specs.declared.settings.LayoutSettings.{LayoutSettings}
use Rattle.textarea_lines.specs.Wrappings.{wrapped_at_width, is_wrapped, whole_lines, wrapping_for}
use Rattle.textarea_lines.specs.TextRows.{HasLayout}
use Rattle.textarea_lines.specs.TextLayout.{Origins, TextAndLayout, layout_of}
use Rattle.textarea_lines.specs.Stored.{IsStored, HoldsRows}

-- ---- positions

-- a line's bytes are part of the size
pub bytes_in_size : {Z : Type 0} (items : List (String Z)) (row : ℕ) → row < length items → length (encode_utf8_all (get_or (lines_of items) row [])) + 1 ≤ size_of items
bytes_in_size [] row within = absurd (omega arith)
bytes_in_size (s ∷ items) zero within = omega (arith, ap length (encodes-chars (string_bytes s) (IsUtf8-string_bytes s)), s.bytes.ok.0)
bytes_in_size (s ∷ items) (suc row) within = omega (arith, bytes_in_size items row (omega arith))

pub small_place : {Z : Type 0} (items : List (String Z)) (size : ℕ) (place : Place) → IsStored items size → IsPlace (text_of items) place → (place.0 < size_limit) × (place.1 ≤ size_limit)
small_place items size place stored h =
    grind (arith, common_steps, rows_place items place stored.some h, row_within, length-le-size_of items, length-le-encodes (get_or (lines_of items) place.0 []), bytes_in_size)

-- ---- the lines of the text are the stored ones

pub lines_stored : {Z : Type 0} (items : List (String Z)) → 0 < length items → lines (text_of items) ≡ lines_of items
lines_stored items some = lines-joined (lines_of items) (omega (arith, length-map items characters_of))

pub count_stored : {Z : Type 0} (items : List (String Z)) → 0 < length items → length (lines (text_of items)) ≡ length items
count_stored items some = ap length (lines_stored items some) ∙ length-map items characters_of

-- what contracts see of some lines with their rows
abbrev pub text_layout_of : {Z : Type 0} → Option Origins → LayoutSettings → List (String Z) → ℕ → List RowsView → TextAndLayout
text_layout_of origins settings items count rows = record { text = text_of items; layout = layout_of settings count rows origins }

-- the stored rows, wrapped by the settings
pub right_rows : {Z : Type 0} (settings : LayoutSettings) (items : List (String Z)) (size : ℕ) (map : MapView) → HoldsRows settings items size map → AreRowsOf (wrapping_for settings (length items)) (lines_of items) map.rows
right_rows settings items size map h = subst (λ (w : Wrapping). AreRowsOf w (lines_of items) map.rows) h.wrapping_is h.text_layout

-- they are those of the text
pub layout_as :
    {Z : Type 0} {o : Option Origins} (settings : LayoutSettings) (items : List (String Z)) (size count : ℕ) (map : MapView) (text_layout : TextAndLayout)
    → HoldsRows settings items size map → text_layout_of o settings items count map.rows ≡ text_layout → HasLayout text_layout map.rows
layout_as settings items size count map text_layout h is =
    subst (λ (l : TextAndLayout). HasLayout l map.rows) is
    (record { text_layout = rw (lines_stored items h.stored.some, length-map items characters_of) (right_rows settings items size map h); ticks = refl })

-- the columns between tab stops are the view's, wrapped or not
pub tab_len_of : (settings : LayoutSettings) (n : ℕ) → (wrapping_for settings n).tab_len ≡ settings.tab_len
tab_len_of settings n =
    elim (is_wrapped settings) as (λ b. (cond b (wrapped_at_width settings settings.inner_width n) (whole_lines settings)).tab_len ≡ settings.tab_len) [ true ↦ refl | false ↦ refl ]

pub tab_len_unchanged : {Z : Type 0} (settings : LayoutSettings) (items : List (String Z)) (size : ℕ) (map : MapView) → HoldsRows settings items size map → map.wrapping.tab_len ≡ settings.tab_len
tab_len_unchanged settings items size map h = ap (λ (w : Wrapping). w.tab_len) h.wrapping_is ∙ tab_len_of settings (length items)

-- copies of the lines, with the same rows
pub holds_copied :
    {Z : Type 0} (settings : LayoutSettings) (old copies : List (String Z)) (size : ℕ) (map again : MapView) → HoldsRows settings old size map
    → lines_of copies ≡ lines_of old → (again.rows ≡ map.rows) × (again.wrapping ≡ map.wrapping) → HoldsRows settings copies size again
holds_copied settings old copies size map again h e same =
    let long : length copies ≡ length old = omega (arith, length-map copies characters_of, length-map old characters_of, ap length e) in
    let some : 0 < length copies = omega (arith, long, h.stored.some) in
    record {
      stored = record {
        some = some;
        size_is = omega (arith, h.stored.size_is, size_of_text old h.stored.some, size_of_text copies some, ap (λ t. weight (joined t)) e);
        limit = h.stored.limit;
      };
      wrapping_is = same.1 ∙ h.wrapping_is ∙ ap (wrapping_for settings) (sym long);
      text_layout = rw (same.1, same.0, e) h.text_layout;
    }

pub layout_copied :
    {Z : Type 0} {o o' : Option Origins} (settings : LayoutSettings) (old copies : List (String Z)) (count again : ℕ) (rows others : List RowsView) → lines_of copies ≡ lines_of old → again ≡ count → others ≡ rows → o' ≡ o
    → text_layout_of o' settings copies again others ≡ text_layout_of o settings old count rows
layout_copied settings old copies count again rows others e count_is rows_are origins_are = cc
