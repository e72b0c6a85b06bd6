-- Lines that are borrowed with their rows, and lines at a prepared inner width.
use Rattle.std.proofs.lemmas.Grind.{common_steps}
use Rattle.std.proofs.Common.{arith, ◌≡◌, ℕ, ◌+◌, ◌<◌, ◌≤◌, Bool, true, false, cond, List, Option, Some, None, length, sym, ap, ◌∙◌, refl, subst, String}
use Rattle.std.specs.Option.{IfSome}
use Rattle.std.proofs.lemmas.List.{length-map}
use Rattle.textarea_util.specs.Limit.{size_limit}
use Rattle.textarea_text.specs.Text.{characters_of, lines, lines_of}
use Rattle.textarea_wrap.specs.RowsView.{RowsView}
use Rattle.textarea_screen_map.specs.declared.layout.Wrapping.{Wrapping}
use Rattle.textarea_screen_map.specs.LineRows.{AreRowsOf, ticks_after, ticks_of, with_tab_len}
use Rattle.textarea_screen_map.specs.Map.{MapView}
use Rattle.textarea_lines.specs.declared.rewrap.WrappedRows.{WrappedRows}
use Rattle.textarea_lines.specs.declared.settings.LayoutSettings.{LayoutSettings}
use Rattle.textarea_lines.specs.TextLayout.{Origins, TextAndLayout, at_width, layout_of, rewrapped, with_settings, keeps_wrapping, wrapping_of}
use Rattle.textarea_lines.specs.Stored.{HoldsRows, IsNextWrap}
use Rattle.textarea_screen_map.specs.BorrowedLines.{AreRowsRight, borrowed_rows}
use Rattle.textarea_lines.specs.View.{IsRewrappedFor, IsRewrappedIfOther, IsViewOf, IsWholeWrap}
use Rattle.textarea_lines.specs.Wrappings.{is_same_wrapping, is_wrapped, wrapping_for}
use Rattle.textarea_lines.proofs.Changes.{Reviewing, holds_whole, holds_wrapped, test_is}
use Rattle.textarea_lines.proofs.SameWraps.{same_whole, same_wrapped}
use Rattle.textarea_lines.proofs.Stores.{count_stored, layout_as, lines_stored, text_layout_of, tab_len_of}

-- the lines are stored with these rows, and contracts see them so
pub record Holds {Z : Type 0} (o : Option Origins) (settings : LayoutSettings) (items : List (String Z)) (size count : ℕ) (map : MapView) (text_layout : TextAndLayout) : Type 0 where
  pub rows : HoldsRows settings items size map
  pub is : text_layout_of o settings items count map.rows ≡ text_layout

-- ---- borrowed lines

pub is_borrowed :
    {Z : Type 0} {o : Option Origins} (settings : LayoutSettings) (items borrowed_lines : List (String Z)) (size count : ℕ) (map : MapView) (text_layout : TextAndLayout)
    → Holds o settings items size count map text_layout → borrowed_lines ≡ items → AreRowsRight borrowed_lines map
is_borrowed settings items borrowed_lines size count map text_layout h is =
    subst (λ (t : List (String _)). AreRowsRight t map) (sym is)
    (record { some = h.rows.stored.some; limit = subst (λ n. n ≤ size_limit) h.rows.stored.size_is h.rows.stored.limit; right = h.rows.text_layout })

pub is_view :
    {Z : Type 0} {o : Option Origins} (settings : LayoutSettings) (items borrowed_lines : List (String Z)) (size count : ℕ) (map : MapView) (text_layout : TextAndLayout)
    → Holds o settings items size count map text_layout → borrowed_lines ≡ items → IsViewOf text_layout (borrowed_rows borrowed_lines map)
is_view settings items borrowed_lines size count map text_layout h borrowed_is =
    let some = h.rows.stored.some in
    record {
      lines = ap lines_of borrowed_is ∙ sym (lines_stored items some) ∙ ap (λ (l : TextAndLayout). lines l.text) h.is;
      wrapping = h.rows.wrapping_is ∙ ap (wrapping_for settings) (sym (count_stored items some)) ∙ ap wrapping_of h.is;
      rows = layout_as settings items size count map text_layout h.rows h.is;
    }

-- ---- lines that are wrapped from scratch

-- if borrowed lines are wrapped, the text is, and each line once
pub whole_wrap :
    {Z : Type 0} {o : Option Origins} (settings : LayoutSettings) (items borrowed_lines : List (String Z)) (count now : ℕ) (rows : List RowsView) (map : MapView) (text_layout : TextAndLayout) (wrapping : Wrapping)
    → 0 < length items → text_layout_of o settings items count rows ≡ text_layout → borrowed_lines ≡ items → map.wrapping ≡ wrapping
    → AreRowsOf map.wrapping (lines_of borrowed_lines) map.rows → ticks_of map.rows ≡ ticks_after count (length borrowed_lines)
    → now ≡ count + length borrowed_lines → IsWholeWrap text_layout wrapping (record { map = map; count = now })
whole_wrap settings items borrowed_lines count now rows map text_layout wrapping some is borrowed_is wrapping_is right ticks counted =
    let same : lines text_layout.text ≡ lines_of borrowed_lines = ap (λ (l : TextAndLayout). lines l.text) (sym is) ∙ lines_stored items some ∙ ap lines_of (sym borrowed_is) in
    let many : length borrowed_lines ≡ length (lines text_layout.text) = sym (ap length same ∙ length-map borrowed_lines characters_of) in
    let count_is : count ≡ text_layout.layout.count = ap (λ (l : TextAndLayout). l.layout.count) is in
    record {
      wrapping = wrapping_is;
      rows = subst (λ (t : List (List ℕ)). AreRowsOf map.wrapping t map.rows) (sym same) right;
      ticks = ticks ∙ ap (λ n. ticks_after n (length borrowed_lines)) count_is ∙ ap (ticks_after text_layout.layout.count) many;
      count = counted ∙ ap (λ n. n + length borrowed_lines) count_is ∙ ap (λ n. text_layout.layout.count + n) many;
    }

-- they are wrapped for settings that change how they are wrapped
pub wrap_for :
    {Z : Type 0} {o : Option Origins} (old settings : LayoutSettings) (items : List (String Z)) (count : ℕ) (rows : List RowsView) (text_layout : TextAndLayout) (before after : Wrapping) (wraps : WrappedRows)
    → Reviewing o old settings items count rows text_layout before after → is_same_wrapping after before ≡ false → IsWholeWrap text_layout after wraps → IsRewrappedFor text_layout settings wraps
wrap_for old settings items count rows text_layout before after wraps h differs whole =
    let same : lines text_layout.text ≡ lines_of items = ap (λ (l : TextAndLayout). lines l.text) (sym h.is) ∙ lines_stored items h.some in
    let many : length items ≡ length (lines text_layout.text) = sym (ap length same ∙ length-map items characters_of) in
    record {
      differs = test_is old settings items count rows text_layout before after h ∙ differs;
      whole = subst (λ (w : Wrapping). IsWholeWrap text_layout w wraps) (h.after_is ∙ ap (wrapping_for settings) many) whole;
    }

-- the cached rows are all lines of the text, wrapped
whole_unchanged :
    {Z : Type 0} {o : Option Origins} (settings : LayoutSettings) (items : List (String Z)) (count : ℕ) (rows : List RowsView) (text_layout : TextAndLayout) (wrapping : Wrapping) (next : Option WrappedRows) (wraps : WrappedRows)
    → 0 < length items → text_layout_of o settings items count rows ≡ text_layout → next ≡ Some wraps → IfSome next (IsNextWrap count items)
    → wraps.map.wrapping ≡ wrapping → IsWholeWrap text_layout wrapping wraps
whole_unchanged settings items count rows text_layout wrapping next wraps some is there cached wrapping_is =
    grind (arith, common_steps, whole_wrap settings items items count wraps.count rows wraps.map text_layout wrapping some is)

-- and so are those that are taken from the cache
pub whole_measured :
    {Z : Type 0} {o : Option Origins} (settings : LayoutSettings) (items : List (String Z)) (count : ℕ) (rows : List RowsView) (text_layout : TextAndLayout) (wrapping : Wrapping) (next taken : Option WrappedRows)
    → 0 < length items → text_layout_of o settings items count rows ≡ text_layout → IfSome next (IsNextWrap count items)
    → IfSome taken (λ wraps. next ≡ Some wraps) → IfSome taken (λ wraps. wraps.map.wrapping ≡ wrapping) → IfSome taken (IsWholeWrap text_layout wrapping)
whole_measured settings items count rows text_layout wrapping next None some is cached there wrapping_is = tt
whole_measured settings items count rows text_layout wrapping next (Some wraps) some is cached there wrapping_is =
    whole_unchanged settings items count rows text_layout wrapping next wraps some is there cached wrapping_is

-- all lines of the text, wrapped, can be cached
pub next_wrap :
    {Z : Type 0} {o : Option Origins} (settings : LayoutSettings) (items : List (String Z)) (count : ℕ) (rows : List RowsView) (text_layout : TextAndLayout) (wrapping : Wrapping) (wraps : WrappedRows)
    → 0 < length items → text_layout_of o settings items count rows ≡ text_layout → IsWholeWrap text_layout wrapping wraps → IsNextWrap count items wraps
next_wrap settings items count rows text_layout wrapping wraps some is whole =
    let same : lines text_layout.text ≡ lines_of items = ap (λ (l : TextAndLayout). lines l.text) (sym is) ∙ lines_stored items some in
    let many : length (lines text_layout.text) ≡ length items = ap length same ∙ length-map items characters_of in
    let count_is : text_layout.layout.count ≡ count = ap (λ (l : TextAndLayout). l.layout.count) (sym is) in
    record {
      rows = subst (λ (t : List (List ℕ)). AreRowsOf wraps.map.wrapping t wraps.map.rows) same whole.rows;
      ticks = whole.ticks ∙ ap (λ n. ticks_after n (length (lines text_layout.text))) count_is ∙ ap (ticks_after count) many;
      count_is = whole.count ∙ ap (λ n. n + length (lines text_layout.text)) count_is ∙ ap (λ n. count + n) many;
    }

-- they are stored with their new rows
pub holds_wrap :
    {Z : Type 0} {o : Option Origins} (old settings : LayoutSettings) (items : List (String Z)) (size count : ℕ) (map : MapView) (text_layout : TextAndLayout) (wraps : WrappedRows)
    → Holds o old items size count map text_layout → IsRewrappedFor text_layout settings wraps → Holds o settings items size wraps.count wraps.map (with_settings text_layout settings)
holds_wrap old settings items size count map text_layout wraps h k =
    let same : lines text_layout.text ≡ lines_of items = ap (λ (l : TextAndLayout). lines l.text) (sym h.is) ∙ lines_stored items h.rows.stored.some in
    record {
      rows = record {
        stored = h.rows.stored;
        wrapping_is = k.whole.wrapping ∙ ap (wrapping_for settings) (ap length same ∙ length-map items characters_of);
        text_layout = subst (λ (t : List (List ℕ)). AreRowsOf wraps.map.wrapping t wraps.map.rows) same k.whole.rows;
      };
      is = ap (λ (l : TextAndLayout). record { text = l.text; layout = layout_of settings wraps.count wraps.map.rows l.layout.origins }) h.is
          ∙ ap (λ (n : ℕ). record { text = text_layout.text; layout = layout_of settings n wraps.map.rows text_layout.layout.origins }) k.whole.count
          ∙ ap (λ (t : List ℕ). record { text = text_layout.text; layout = record (rewrapped text_layout settings).layout { ticks = t } }) k.whole.ticks
          ∙ ap (λ (b : Bool). cond b (record { text = text_layout.text; layout = record text_layout.layout { settings = settings } }) (rewrapped text_layout settings)) (sym k.differs);
    }

-- ---- lines that are wrapped as before

-- at the same tab stops, lines that are wrapped in the same way have one wrapping
same_at : (old settings : LayoutSettings) (n : ℕ) (before : Wrapping) → settings.tab_len ≡ old.tab_len → before ≡ wrapping_for old n → is_same_wrapping (wrapping_for settings n) before ≡ true → before ≡ wrapping_for settings n
same_at old settings n before tab is same = by (is_wrapped settings) refl
  where
    stops : with_tab_len before settings.tab_len ≡ before
    stops = ap (with_tab_len before) (tab ∙ sym (tab_len_of old n) ∙ ap (λ (w : Wrapping). w.tab_len) (sym is))

    by : (b : Bool) → is_wrapped settings ≡ b → before ≡ wrapping_for settings n
    by true wrapped = same_wrapped settings n before wrapped same
    by false whole = sym stops ∙ same_whole old settings n before is whole same

-- of the text, and of the stored lines
stays_same :
    {Z : Type 0} {o : Option Origins} (old settings : LayoutSettings) (items : List (String Z)) (size count : ℕ) (map : MapView) (text_layout : TextAndLayout)
    → Holds o old items size count map text_layout → keeps_wrapping text_layout settings ≡ true → is_same_wrapping (wrapping_for settings (length items)) map.wrapping ≡ true
stays_same old settings items size count map text_layout h stays = grind (arith, common_steps, count_stored items h.rows.stored.some)

-- the same rows under the settings
layout_unchanged :
    {Z : Type 0} {o : Option Origins} (old settings : LayoutSettings) (items : List (String Z)) (size count : ℕ) (map : MapView) (rows : List RowsView) (text_layout : TextAndLayout)
    → Holds o old items size count map text_layout → keeps_wrapping text_layout settings ≡ true → rows ≡ map.rows → text_layout_of o settings items count rows ≡ with_settings text_layout settings
layout_unchanged {Z} {o} old settings items size count map rows text_layout h stays rows_are =
    ap (text_layout_of o settings items count) rows_are
    ∙ ap (λ (l : TextAndLayout). record { text = l.text; layout = record l.layout { settings = settings } }) h.is
    ∙ ap (λ (b : Bool). cond b (record { text = text_layout.text; layout = record text_layout.layout { settings = settings } }) (rewrapped text_layout settings)) (sym stays)

-- their rows remain right: at the same tab stops if they are wrapped, otherwise at the new ones
pub holds_same :
    {Z : Type 0} {o : Option Origins} (old settings : LayoutSettings) (items : List (String Z)) (size count : ℕ) (map : MapView) (text_layout : TextAndLayout)
    → Holds o old items size count map text_layout → settings.tab_len ≡ old.tab_len → keeps_wrapping text_layout settings ≡ true
    → Holds o settings items size count map (with_settings text_layout settings)
holds_same old settings items size count map text_layout h tab stays =
    record {
      rows = record {
        stored = h.rows.stored;
        wrapping_is = same_at old settings (length items) map.wrapping tab h.rows.wrapping_is (stays_same old settings items size count map text_layout h stays);
        text_layout = h.rows.text_layout;
      };
      is = layout_unchanged old settings items size count map map.rows text_layout h stays refl;
    }

pub holds_same_wrapped :
    {Z : Type 0} {o : Option Origins} (old settings : LayoutSettings) (items : List (String Z)) (size count : ℕ) (map : MapView) (text_layout : TextAndLayout)
    → Holds o old items size count map text_layout → is_wrapped settings ≡ true → keeps_wrapping text_layout settings ≡ true → Holds o settings items size count map (with_settings text_layout settings)
holds_same_wrapped old settings items size count map text_layout h wrapped stays =
    record {
      rows = holds_wrapped old settings items size map wrapped (stays_same old settings items size count map text_layout h stays) h.rows;
      is = layout_unchanged old settings items size count map map.rows text_layout h stays refl;
    }

pub holds_same_whole :
    {Z : Type 0} {o : Option Origins} (old settings : LayoutSettings) (items : List (String Z)) (size count : ℕ) (map now : MapView) (text_layout : TextAndLayout)
    → Holds o old items size count map text_layout → is_wrapped settings ≡ false → keeps_wrapping text_layout settings ≡ true → now.rows ≡ map.rows
    → now.wrapping ≡ with_tab_len map.wrapping settings.tab_len → AreRowsOf now.wrapping (lines_of items) now.rows → Holds o settings items size count now (with_settings text_layout settings)
holds_same_whole old settings items size count map now text_layout h whole stays rows_are wrapping_is right =
    record {
      rows = holds_whole old settings items size map now whole (stays_same old settings items size count map text_layout h stays) h.rows wrapping_is right;
      is = layout_unchanged old settings items size count map now.rows text_layout h stays rows_are;
    }

-- ---- a prepared width

-- the map at a prepared width, and the count there
abbrev pub map_at : Option WrappedRows → MapView → MapView
map_at None map = map
map_at (Some wraps) map = wraps.map

abbrev pub count_at : Option WrappedRows → ℕ → ℕ
count_at None count = count
count_at (Some wraps) count = wraps.count

pub holds_at :
    {Z : Type 0} {o : Option Origins} (settings : LayoutSettings) (items : List (String Z)) (size count : ℕ) (map : MapView) (text_layout : TextAndLayout) (inner_width : ℕ) (wraps : Option WrappedRows)
    → Holds o settings items size count map text_layout → IsRewrappedIfOther text_layout (at_width text_layout inner_width) wraps
    → Holds o (at_width text_layout inner_width) items size (count_at wraps count) (map_at wraps map) (with_settings text_layout (at_width text_layout inner_width))
holds_at settings items size count map text_layout inner_width None h k =
    holds_same settings (at_width text_layout inner_width) items size count map text_layout h (ap (λ (l : TextAndLayout). l.layout.settings.tab_len) (sym h.is)) k
holds_at settings items size count map text_layout inner_width (Some wraps) h k =
    holds_wrap settings (at_width text_layout inner_width) items size count map text_layout wraps h k
