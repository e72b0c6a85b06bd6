-- Lines that aren't wrapped, and a change inside one of them.
use Rattle.std.proofs.lemmas.Grind.{common_steps}
use Rattle.std.proofs.Common.{◌≡◌, ℕ, zero, suc, ◌+◌, ◌<◌, ◌≤◌, Bool, true, false, cond, List, [], ◌∷◌, ◌++◌, length, take, drop, get_or, encode_utf8_all, sym, ap, refl, ◌∙◌, arith, Option, String, Result, Ok, Err, is_ok}
use Rattle.std.specs.Result.{IsOk}
use Rattle.std.proofs.lemmas.List.{get_or-append_right, length-map, length-take-le}
use Rattle.textarea_util.specs.Limit.{size_limit}
use Rattle.textarea_util.specs.Replaced.{replaced}
use Rattle.textarea_text.specs.Size.{weight}
use Rattle.textarea_text.specs.Splice.{Splice, Fits, applied}
use Rattle.textarea_text.specs.Text.{characters, characters_of, following, lines, lines_of, text_of}
use Rattle.textarea_text.specs.Touched.{breaks_of, new_line_count, replaced_line_count}
use Rattle.textarea_util.proofs.Replacing.{length-replaced}
use Rattle.textarea_text.proofs.Sizes.{length-le-size_of, size_of_text, weight-append, weight-characters, weight_of_following}
use Rattle.textarea_text.proofs.Splices.{following-append}
use Rattle.textarea_lines.proofs.ChangedLine.{ChangesLine, changes_line}
use Rattle.textarea_wrap.specs.WrapRules.{ranges_from}
use Rattle.textarea_wrap.specs.RowsView.{RowsView}
use Rattle.textarea_wrap.specs.WrapResult.{IsWrapped}
use Rattle.textarea_wrap.specs.declared.wrap.WrapMode.TheVariants as mode
use Rattle.textarea_screen_map.specs.LineRows.{AreRowsOf, AreRowsOfLine}
use Rattle.textarea_blocks.specs.Sums.{line_bytes, ranges_at, row_total, size_total}
use Rattle.textarea_screen_map.specs.Map.{MapView}
use Rattle.textarea_screen_map.proofs.Layouts.{AreRowsOf-drop, AreRowsOf-replaced, AreRowsOf-take, length-AreRowsOf}
use Rattle.textarea_blocks.proofs.Numbers.{row_total-replaced}
use Rattle.textarea_blocks.proofs.LineSums.{size_total-append}
use Rattle.textarea_screen_map.proofs.RowSizes.{size_of_lines}
use Rattle.textarea_screen_map.proofs.VisualRows.{rows_before_next}
use Rattle.textarea_lines.specs.declared.settings.LayoutSettings.{LayoutSettings}
use Rattle.textarea_lines.specs.TextRows.{CanStayWhole, HasWholeLine, line_size}
use Rattle.textarea_lines.specs.TextLayout.{Layout, Origins, after_replacement, layout_of, lines_spliced, some_wrapped}
use Rattle.textarea_lines.specs.Stored.{IsStored, HoldsRows}
use Rattle.textarea_lines.specs.Wrappings.{is_wrapped, whole_lines, wrapping_for}
use Rattle.textarea_lines.proofs.Layouts.{map-replaced}
use Rattle.textarea_lines.proofs.SameWraps.{whole_is}
use Rattle.textarea_lines.proofs.Stores.{right_rows, text_layout_of, tab_len_unchanged}

-- ---- one row a line

pub whole_ranges : (tab_len width : ℕ) (line : List ℕ) (ranges : List (ℕ × ℕ)) → IsWrapped mode.None tab_len width line ranges → length ranges ≡ 1
whole_ranges tab_len width [] ranges h = ap length h.ranges_are ∙ ap (λ t. length (ranges_from 0 t)) h.wrapped
whole_ranges tab_len width (b ∷ line) ranges h = ap length h.ranges_are ∙ ap (λ t. length (ranges_from 0 t)) h.wrapped

total_whole : (settings : LayoutSettings) (lines : List (List ℕ)) (rows : List RowsView) → AreRowsOf (whole_lines settings) lines rows → row_total rows ≡ length lines
total_whole settings [] [] h = refl
total_whole settings [] (r ∷ rows) h = absurd h
total_whole settings (line ∷ lines) [] h = absurd h
total_whole settings (line ∷ lines) (r ∷ rows) h =
    omega (arith, whole_ranges settings.tab_len 1 (encode_utf8_all line) r.ranges h.0.wrapped, total_whole settings lines rows h.1)

one_range : (settings : LayoutSettings) (lines : List (List ℕ)) (rows : List RowsView) (i : ℕ) → AreRowsOf (whole_lines settings) lines rows → i < length lines → length (ranges_at rows i) ≡ 1
one_range settings [] rows i h within = absurd (omega arith)
one_range settings (line ∷ lines) [] i h within = absurd h
one_range settings (line ∷ lines) (r ∷ rows) zero h within = whole_ranges settings.tab_len 1 (encode_utf8_all line) r.ranges h.0.wrapped
one_range settings (line ∷ lines) (r ∷ rows) (suc i) h within = one_range settings lines rows i h.1 (omega arith)

-- one row is replaced by one row
pub size_of_one :
    (rows new : List RowsView) (wrapped : RowsView) (row bytes : ℕ) → new ≡ wrapped ∷ [] → line_bytes wrapped.ranges ≡ bytes
    → size_total (replaced rows row 1 new) ≡ size_total (take row rows) + (bytes + 1) + size_total (drop (row + 1) rows)
size_of_one rows new wrapped row bytes is e =
    grind (arith, common_steps, size_total-append (take row rows) (new ++ drop (row + 1) rows), size_total-append new (drop (row + 1) rows))

pub total_of_one : (rows new : List RowsView) (wrapped : RowsView) (row : ℕ) → row < length rows → length (ranges_at rows row) ≡ 1 → new ≡ wrapped ∷ [] → length wrapped.ranges ≡ 1 → row_total (replaced rows row 1 new) ≡ row_total rows
total_of_one rows new wrapped row within one is has = grind (arith, common_steps, row_total-replaced rows new row 1, rows_before_next rows row)

-- a push for which there is room
pub pushed : {T E X : Type 0} (r : Result T E) (old new : List X) (x : X) → new ≡ cond (is_ok r) (old ++ x ∷ []) old → IsOk r → old ≡ [] → new ≡ x ∷ []
pushed (Ok v) old new x e h none = e ∙ ap (λ t. t ++ x ∷ []) none
pushed (Err v) old new x e h none = absurd cc

-- ---- a change inside one line

-- a change without a break, in lines that aren't wrapped
pub record Inside {Z : Type 0} (settings : LayoutSettings) (old now borrowed_lines : List (String Z)) (size after : ℕ) (map : MapView) (splice : Splice) (row : ℕ) : Type 0 where
  pub holds : HoldsRows settings old size map
  pub whole : is_wrapped settings ≡ false
  pub none : breaks_of splice.symbols ≡ 0
  pub fits : Fits (text_of old) splice
  pub now_some : 0 < length now
  pub now_is : text_of now ≡ applied (text_of old) splice
  pub borrowed_is : borrowed_lines ≡ now
  pub row_is : row ≡ splice.place.0
  pub after_is : after ≡ weight (applied (text_of old) splice) + 1
  pub limit : after ≤ size_limit

pub inside_line :
    {Z : Type 0} (settings : LayoutSettings) (old now borrowed_lines : List (String Z)) (size after : ℕ) (map : MapView) (splice : Splice) (row : ℕ)
    → Inside settings old now borrowed_lines size after map splice row → ChangesLine (lines_of old) (lines_of now) (row, splice.place.1)
inside_line settings old now borrowed_lines size after map splice row h =
    let some : 0 < length (lines_of old) = omega (arith, length-map old characters_of, h.holds.stored.some) in
    let some_now : 0 < length (lines_of now) = omega (arith, length-map now characters_of, h.now_some) in
    rw h.row_is (changes_line (lines_of old) (lines_of now) splice some some_now h.fits h.none h.now_is)

inside_rows :
    {Z : Type 0} (settings : LayoutSettings) (old now borrowed_lines : List (String Z)) (size after : ℕ) (map : MapView) (splice : Splice) (row : ℕ)
    → Inside settings old now borrowed_lines size after map splice row → AreRowsOf (whole_lines settings) (lines_of old) map.rows
inside_rows settings old now borrowed_lines size after map splice row h =
    rw (whole_is settings (length old) h.whole) at (right_rows settings old size map h.holds)

-- the number of lines is unchanged
as_many :
    {Z : Type 0} (settings : LayoutSettings) (old now borrowed_lines : List (String Z)) (size after : ℕ) (map : MapView) (splice : Splice) (row : ℕ)
    → Inside settings old now borrowed_lines size after map splice row → length now ≡ length old
as_many settings old now borrowed_lines size after map splice row h =
    grind (arith, common_steps, inside_line settings old now borrowed_lines size after map splice row h, length-map old characters_of, length-map now characters_of, length-replaced)

inside_stored :
    {Z : Type 0} (settings : LayoutSettings) (old now borrowed_lines : List (String Z)) (size after : ℕ) (map : MapView) (splice : Splice) (row : ℕ)
    → Inside settings old now borrowed_lines size after map splice row → IsStored now after
inside_stored settings old now borrowed_lines size after map splice row h = record {
  some = h.now_some;
  size_is = omega (arith, h.after_is, size_of_text now h.now_some, ap weight h.now_is);
  limit = h.limit;
}

-- the bytes and the lines, when one line is replaced
weight_replaced : (lines : List (List ℕ)) (row : ℕ) (line : List ℕ) → weight (following (replaced lines row 1 (line ∷ []))) ≡ weight (following (take row lines)) + line_size line + weight (following (drop (row + 1) lines))
weight_replaced lines row line =
    grind (
      arith,
      common_steps,
      following-append (take row lines) (line ∷ drop (row + 1) lines),
      weight-append (following (take row lines)) (following (line ∷ drop (row + 1) lines)),
      weight-append (characters line) (following (drop (row + 1) lines)),
      weight-characters line,
    )

-- the borrowed line is the new one
line_borrowed :
    {Z : Type 0} (settings : LayoutSettings) (old now borrowed_lines : List (String Z)) (size after : ℕ) (map : MapView) (splice : Splice) (row : ℕ) (h : Inside settings old now borrowed_lines size after map splice row)
    → get_or (lines_of borrowed_lines) row [] ≡ (inside_line settings old now borrowed_lines size after map splice row h).line
line_borrowed settings old now borrowed_lines size after map splice row h =
    grind (arith, common_steps, inside_line settings old now borrowed_lines size after map splice row h, length-take-le, get_or-append_right)

-- the line can be wrapped
pub can_wrap :
    {Z : Type 0} (settings : LayoutSettings) (old now borrowed_lines : List (String Z)) (size after : ℕ) (map : MapView) (splice : Splice) (row : ℕ)
    → Inside settings old now borrowed_lines size after map splice row → CanStayWhole borrowed_lines map.rows row after
can_wrap settings old now borrowed_lines size after map splice row h =
    let line = inside_line settings old now borrowed_lines size after map splice row h in
    let right = inside_rows settings old now borrowed_lines size after map splice row h in
    let many = as_many settings old now borrowed_lines size after map splice row h in
    let stored = inside_stored settings old now borrowed_lines size after map splice row h in
    let whole = whole_lines settings in
    let above = size_of_lines whole (take row (lines_of old)) (take row map.rows) (AreRowsOf-take whole row (lines_of old) map.rows right) in
    let below = size_of_lines whole (drop (row + 1) (lines_of old)) (drop (row + 1) map.rows) (AreRowsOf-drop whole (row + 1) (lines_of old) map.rows right) in
    record {
      within = omega (arith, line.within, many, length-map old characters_of, ap length h.borrowed_is);
      same = omega (arith, length-AreRowsOf whole (lines_of old) map.rows right, length-map old characters_of, many, ap length h.borrowed_is);
      one = one_range settings (lines_of old) map.rows row right line.within;
      few = omega (arith, total_whole settings (lines_of old) map.rows right, length-map old characters_of, length-le-size_of old, h.holds.stored.size_is, h.holds.stored.limit);
      size_is =
          omega (
            arith,
            above.0,
            below.0,
            ap line_size (line_borrowed settings old now borrowed_lines size after map splice row h),
            weight_replaced (lines_of old) row line.line,
            ap (λ t. weight (following t)) line.new_is,
            weight_of_following now,
            stored.size_is,
          );
      limit = h.limit;
    }

pub holds_inside :
    {Z : Type 0} (settings : LayoutSettings) (old now borrowed_lines : List (String Z)) (size after : ℕ) (map new : MapView) (splice : Splice) (row tick : ℕ)
    → Inside settings old now borrowed_lines size after map splice row
    → HasWholeLine map.wrapping.tab_len (get_or (lines_of borrowed_lines) row []) row tick map.rows new.rows → new.wrapping ≡ map.wrapping → HoldsRows settings now after new
holds_inside settings old now borrowed_lines size after map new splice row tick h k same =
    let line = inside_line settings old now borrowed_lines size after map splice row h in
    let right = inside_rows settings old now borrowed_lines size after map splice row h in
    let wrapped : AreRowsOfLine (whole_lines settings) line.line k.wrapped =
    rw (← (line_borrowed settings old now borrowed_lines size after map splice row h), ← (tab_len_unchanged settings old size map h.holds)) (record { characters = k.characters; short = k.short; wrapped = k.right; marked = k.marked }) in
    let wrapping : new.wrapping ≡ wrapping_for settings (length now) =
    same ∙ h.holds.wrapping_is ∙ ap (wrapping_for settings) (sym (as_many settings old now borrowed_lines size after map splice row h)) in
    record {
      stored = inside_stored settings old now borrowed_lines size after map splice row h;
      wrapping_is = wrapping;
      text_layout = rw (wrapping ∙ whole_is settings (length now) h.whole, line.new_is, k.new_is)
          (AreRowsOf-replaced (whole_lines settings) (lines_of old) (line.line ∷ []) map.rows (k.wrapped ∷ []) row 1 right (wrapped, tt));
    }

-- without wrapping, one line is wrapped again
recut_one : (layout : Layout) (n row removed_lines coming : ℕ) → is_wrapped layout.settings ≡ false → removed_lines ≡ 1 → coming ≡ 1 → after_replacement layout n row removed_lines coming ≡ some_wrapped layout row 1 1
recut_one layout n row removed_lines coming whole one one' = rw (whole, one, one')

replaced_one : (b : Bool) (breaks : ℕ) → breaks ≡ 0 → (cond b 1 (breaks + 1) ≡ 1) × (cond b (breaks + 1) 1 ≡ 1)
replaced_one true breaks e = (refl, omega arith)
replaced_one false breaks e = (omega arith, refl)

pub layout_inside :
    {Z : Type 0} {o : Option Origins} (settings : LayoutSettings) (old now borrowed_lines : List (String Z)) (size after count counted : ℕ) (map : MapView) (new : List RowsView) (splice : Splice) (row : ℕ)
    → Inside settings old now borrowed_lines size after map splice row → HasWholeLine map.wrapping.tab_len (get_or (lines_of borrowed_lines) row []) row (count + 1) map.rows new → counted ≡ count + 1
    → text_layout_of o settings now counted new ≡ lines_spliced (text_layout_of o settings old count map.rows) splice
layout_inside {Z} {o} settings old now borrowed_lines size after count counted map new splice row h k counted_is =
    let numbers = replaced_one splice.inserts (breaks_of splice.symbols) h.none in
    let layout : Layout = layout_of settings count map.rows o in
    rw (recut_one layout (length (lines (text_of old))) splice.place.0 (replaced_line_count splice) (new_line_count splice) h.whole numbers.0 numbers.1)
    (cc (map-replaced (λ (r : RowsView). r.tick) map.rows (k.wrapped ∷ []) row 1))
