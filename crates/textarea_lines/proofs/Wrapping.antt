-- The lines that a splice, another width and other settings wrap; the count never decreases.
use Rattle.std.proofs.lemmas.Grind.{common_steps}
use Rattle.std.proofs.Common.{◌≡◌, ◌≢◌, ◌⊎◌, inl, inr, ℕ, ◌+◌, ◌-◌, ◌==◌, ◌≤◌, Bool, true, false, cond, List, [], ◌∷◌, Option, None, Some, option_map, length, ap, refl, sym, subst, ◌∙◌, le_trans, arith, eq-eqb}
use Rattle.std.proofs.lemmas.Bool.{eqb-true}
use Rattle.textarea_text.specs.Splice.{Splice, Fits, applied}
use Rattle.textarea_text.specs.Text.{lines}
use Rattle.textarea_text.specs.Touched.{new_line_count, replaced_line_count}
use Rattle.textarea_screen_map.specs.LineRows.{AreRowsOf}
use Rattle.textarea_screen_map.specs.declared.layout.Wrapping.{Wrapping}
use Rattle.textarea_lines.specs.declared.settings.LayoutSettings.{LayoutSettings}
use Rattle.textarea_lines.specs.LineWraps.{WrapsForSplices, WrapsAllLines, WrapsNoLine, WrapsTouchedLines, WrapsForSettings, WrapsForSplice, WrapsForWidth, map_width, width_for}
use Rattle.textarea_lines.specs.TextLayout.{TextAndLayout, Layout, Origins, all_wrapped, applied_to, at_width, origins_spliced, rewrapped, with_settings, some_wrapped, keeps_wrapping, wrapping_of}
use Rattle.textarea_lines.specs.Wrappings.{is_same_wrapping, wrapping_for}
use Rattle.textarea_lines.proofs.MapWidths.{other_test, same_test, same_wrapping}
use Rattle.textarea_lines.proofs.PutSettings.{settings_put, text_stays}
use Rattle.textarea_lines.proofs.SplicedRows.{OneMap, keeps_others}
use Rattle.textarea_lines.proofs.Splicing.{count_spliced, splices_lines}

-- ---- splices

-- the layout after a splice, by whether lines are wrapped as before
abbrev layout_if : Bool → TextAndLayout → Splice → ℕ → Layout
layout_if b text_layout splice after =
    record (cond b (some_wrapped text_layout.layout splice.place.0 (replaced_line_count splice) (new_line_count splice)) (record (all_wrapped text_layout.layout.settings text_layout.layout.count after) { origins = text_layout.layout.origins })) {
      origins = option_map (λ (origins : Origins). origins_spliced origins splice) text_layout.layout.origins;
    }

settings_if : (b : Bool) (text_layout : TextAndLayout) (splice : Splice) (after : ℕ) → (layout_if b text_layout splice after).settings ≡ text_layout.layout.settings
settings_if true text_layout splice after = refl
settings_if false text_layout splice after = refl

-- the number of lines after it
abbrev count_of : TextAndLayout → Splice → ℕ
count_of text_layout splice = length (lines text_layout.text) - replaced_line_count splice + new_line_count splice

-- whether lines are wrapped as before
abbrev stays : TextAndLayout → Splice → Bool
stays text_layout splice = is_same_wrapping (wrapping_for text_layout.layout.settings (count_of text_layout splice)) (wrapping_for text_layout.layout.settings (length (lines text_layout.text)))

layout_is : (text_layout : TextAndLayout) (splice : Splice) (b : Bool) → stays text_layout splice ≡ b → (applied_to text_layout splice).layout ≡ layout_if b text_layout splice (count_of text_layout splice)
layout_is text_layout splice b e = ap (λ (t : Bool). layout_if t text_layout splice (count_of text_layout splice)) e

settings_unchanged : (text_layout : TextAndLayout) (splice : Splice) → (applied_to text_layout splice).layout.settings ≡ text_layout.layout.settings
settings_unchanged text_layout splice = settings_if (stays text_layout splice) text_layout splice (count_of text_layout splice)

width_after : (text_layout : TextAndLayout) (splice : Splice) → Fits text_layout.text splice → map_width (applied_to text_layout splice) ≡ width_for text_layout.layout.settings (count_of text_layout splice)
width_after text_layout splice fits = grind (arith, common_steps, settings_unchanged text_layout splice, count_spliced text_layout.text splice fits)

wrapping_after : (text_layout : TextAndLayout) (splice : Splice) → Fits text_layout.text splice → wrapping_of (applied_to text_layout splice) ≡ wrapping_for text_layout.layout.settings (count_of text_layout splice)
wrapping_after text_layout splice fits = grind (arith, common_steps, settings_unchanged text_layout splice, count_spliced text_layout.text splice fits)

wraps_touched :
    (one : OneMap) (text_layout : TextAndLayout) (splice : Splice) → Fits text_layout.text splice
    → map_width (applied_to text_layout splice) ≡ map_width text_layout → WrapsTouchedLines text_layout splice (applied_to text_layout splice)
wraps_touched one text_layout splice fits same =
    let settings = text_layout.layout.settings in
    let width : width_for settings (count_of text_layout splice) ≡ width_for settings (length (lines text_layout.text)) = sym (width_after text_layout splice fits) ∙ same in
    let layout = layout_is text_layout splice true (same_test settings settings (count_of text_layout splice) (length (lines text_layout.text)) refl refl width) in
    let wrapping : wrapping_of (applied_to text_layout splice) ≡ wrapping_of text_layout =
    wrapping_after text_layout splice fits ∙ same_wrapping settings settings (count_of text_layout splice) (length (lines text_layout.text)) refl refl width in
    record {
      count = ap (λ (l : Layout). l.count) layout;
      rows = λ first second h k.
          keeps_others one (wrapping_of text_layout) text_layout.text splice text_layout.layout.count first second (splices_lines text_layout.text splice fits) h.text_layout
          (subst (λ (w : Wrapping). AreRowsOf w (lines (applied text_layout.text splice)) second) wrapping k.text_layout)
          (k.ticks ∙ ap (λ (l : Layout). l.ticks) layout ∙ ap (λ (t : List ℕ). (some_wrapped (record text_layout.layout { ticks = t }) splice.place.0 (replaced_line_count splice) (new_line_count splice)).ticks) (sym h.ticks));
    }

wraps_all : (text_layout : TextAndLayout) (splice : Splice) → Fits text_layout.text splice → map_width (applied_to text_layout splice) ≢ map_width text_layout → WrapsAllLines text_layout (applied_to text_layout splice)
wraps_all text_layout splice fits other =
    let settings = text_layout.layout.settings in
    let layout = layout_is text_layout splice false (other_test settings settings (count_of text_layout splice) (length (lines text_layout.text)) refl refl (λ e. other (width_after text_layout splice fits ∙ e))) in
    let many = sym (count_spliced text_layout.text splice fits) in
    record {
      count = ap (λ (l : Layout). l.count) layout ∙ ap (λ (n : ℕ). text_layout.layout.count + n) many;
      ticks = ap (λ (l : Layout). l.ticks) layout ∙ ap (λ (n : ℕ). (all_wrapped settings text_layout.layout.count n).ticks) many;
    }

pub is_spliced : (one : OneMap) (text_layout : TextAndLayout) (splice : Splice) → Fits text_layout.text splice → WrapsForSplice text_layout splice (applied_to text_layout splice)
is_spliced one text_layout splice fits = record {
  text = refl;
  settings = settings_unchanged text_layout splice;
  same_width = wraps_touched one text_layout splice fits;
  other_width = wraps_all text_layout splice fits;
}

-- ---- settings

abbrev put_if : Bool → TextAndLayout → LayoutSettings → TextAndLayout
put_if b text_layout settings =
    cond b (record { text = text_layout.text; layout = record text_layout.layout { settings = settings } }) (rewrapped text_layout settings)

put_is : (text_layout : TextAndLayout) (settings : LayoutSettings) (b : Bool) → keeps_wrapping text_layout settings ≡ b → with_settings text_layout settings ≡ put_if b text_layout settings
put_is text_layout settings b e = ap (λ (t : Bool). put_if t text_layout settings) e

wraps_none : (text_layout : TextAndLayout) (settings : LayoutSettings) → keeps_wrapping text_layout settings ≡ true → WrapsNoLine text_layout (with_settings text_layout settings)
wraps_none text_layout settings e =
    let is = put_is text_layout settings true e in
    record { count = ap (λ (l : TextAndLayout). l.layout.count) is; ticks = ap (λ (l : TextAndLayout). l.layout.ticks) is }

wraps_from_scratch : (text_layout : TextAndLayout) (settings : LayoutSettings) → keeps_wrapping text_layout settings ≡ false → WrapsAllLines text_layout (with_settings text_layout settings)
wraps_from_scratch text_layout settings e =
    let is = put_is text_layout settings false e in
    subst (WrapsAllLines text_layout) (sym is) (record { count = refl; ticks = refl })

width_put : (text_layout : TextAndLayout) (settings : LayoutSettings) → map_width (with_settings text_layout settings) ≡ width_for settings (length (lines text_layout.text))
width_put text_layout settings = grind (arith, common_steps, settings_put text_layout settings, text_stays text_layout settings)

pub is_widened : (text_layout : TextAndLayout) (inner_width : ℕ) → WrapsForWidth text_layout (with_settings text_layout (at_width text_layout inner_width))
is_widened text_layout inner_width =
    let settings : LayoutSettings = at_width text_layout inner_width in
    let n = length (lines text_layout.text) in
    record {
      text = text_stays text_layout settings;
      same_width = λ same. wraps_none text_layout settings (same_test settings text_layout.layout.settings n n refl refl (sym (width_put text_layout settings) ∙ same));
      other_width = λ other. wraps_from_scratch text_layout settings (other_test settings text_layout.layout.settings n n refl refl (λ e. other (width_put text_layout settings ∙ e)));
    }

-- ---- the count

pub two_widths : (one other : Option ℕ) → (one ≡ other) ⊎ (one ≢ other)
two_widths None None = inl refl
two_widths None (Some width) = inr (λ e. cc)
two_widths (Some width) None = inr (λ e. cc)
two_widths (Some width) (Some other) = by (width == other) refl
  where
    by : (b : Bool) → (width == other) ≡ b → (Some width ≡ Some other) ⊎ (Some width ≢ Some other)
    by true e = inl (ap Some (eqb-true width other e))
    by false e = inr (λ same. let one : width ≡ other = cc in absurd (cc (eq-eqb width other one)))

pub all_grow : (old new : TextAndLayout) → WrapsAllLines old new → old.layout.count ≤ new.layout.count
all_grow old new h = omega (arith, h.count)

one_grows : (old new : TextAndLayout) (splice : Splice) → WrapsForSplice old splice new → old.layout.count ≤ new.layout.count
one_grows old new splice h = grind (arith, common_steps, all_grow, two_widths (map_width new) (map_width old))

pub splices_grow : (old new : TextAndLayout) (splices : List Splice) → WrapsForSplices old splices new → old.layout.count ≤ new.layout.count
splices_grow old new [] h = omega (arith, ap (λ (l : TextAndLayout). l.layout.count) h)
splices_grow old new (splice ∷ splices) h =
    le_trans (one_grows old h.0 splice h.1) (splices_grow h.0 new splices h.2)

pub settings_grow : (old new : TextAndLayout) (settings : LayoutSettings) → WrapsForSettings old settings new → old.layout.count ≤ new.layout.count
settings_grow old new settings h = by (keeps_wrapping old settings) refl
  where
    by : (b : Bool) → keeps_wrapping old settings ≡ b → old.layout.count ≤ new.layout.count
    by true e = omega (arith, (h.same_way e).count)
    by false e = all_grow old new (h.other_way e)
