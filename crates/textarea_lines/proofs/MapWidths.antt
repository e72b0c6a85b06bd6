-- The width of the map determines how lines are wrapped, in one mode and with the same tab stops.
use Rattle.std.proofs.lemmas.Grind.{common_steps}
use Rattle.std.proofs.Common.{arith, ◌≡◌, ◌≢◌, ℕ, ◌==◌, ◌&&◌, ◌||◌, Bool, true, false, cond, not, Option, None, Some, ap, refl, ◌∙◌}
use Rattle.std.proofs.lemmas.Bool.{and_parts, eqb-true}
use Rattle.textarea_wrap.specs.Metrics.{columns_for_rows, line_number_columns}
use Rattle.textarea_wrap.specs.declared.wrap.WrapMode.{WrapMode}
use Rattle.textarea_wrap.specs.declared.wrap.WrapMode.TheVariants as mode
use Rattle.textarea_screen_map.specs.declared.layout.Wrapping.{Wrapping}
use Rattle.textarea_lines.specs.declared.settings.LayoutSettings.{LayoutSettings}
use Rattle.textarea_lines.specs.LineWraps.{width_for}
use Rattle.textarea_lines.specs.Wrappings.{wrapped_at_width, is_same_wrapping, is_same_mode, whole_lines, wrapping_for, wraps}
use Rattle.textarea_lines.proofs.PutSettings.{same_as_itself}

-- how lines are wrapped if the map has this width
abbrev wrapping_by : WrapMode → ℕ → Option ℕ → Wrapping
wrapping_by m tab_len None = record { mode = mode.None; width = 1; tab_len = tab_len }
wrapping_by m tab_len (Some width) = record { mode = m; width = width; tab_len = tab_len }

abbrev settings_of : WrapMode → ℕ → Bool → ℕ → LayoutSettings
settings_of m tab_len numbers width = record { mode = m; tab_len = tab_len; line_numbers = numbers; inner_width = width }

-- the width and the wrapping, by whether the inner area has no column
abbrev width_if : Bool → LayoutSettings → ℕ → Option ℕ
width_if none settings n = cond none None (columns_for_rows settings.mode settings.inner_width (line_number_columns settings.line_numbers n))

abbrev wrapping_if : Bool → LayoutSettings → ℕ → Wrapping
wrapping_if none settings n = cond (not none && wraps settings.mode) (wrapped_at_width settings settings.inner_width n) (whole_lines settings)

wrapped_so : (none : Bool) (m : WrapMode) (tab_len : ℕ) (numbers : Bool) (width n : ℕ) →
    wrapping_if none (settings_of m tab_len numbers width) n ≡ wrapping_by m tab_len (width_if none (settings_of m tab_len numbers width) n)
wrapped_so true m tab_len numbers width n = refl
wrapped_so false mode.None tab_len numbers width n = refl
wrapped_so false mode.Word tab_len numbers width n = refl
wrapped_so false mode.Glyph tab_len numbers width n = refl
wrapped_so false mode.WordOrGlyph tab_len numbers width n = refl

pub wrapping_by_width : (settings : LayoutSettings) (n : ℕ) → wrapping_for settings n ≡ wrapping_by settings.mode settings.tab_len (width_for settings n)
wrapping_by_width settings n = wrapped_so (settings.inner_width == 0) settings.mode settings.tab_len settings.line_numbers settings.inner_width n

-- two settings with one mode, the same tab stops and the same width of the map have one wrapping
pub same_wrapping : (one other : LayoutSettings) (n k : ℕ) → one.mode ≡ other.mode → one.tab_len ≡ other.tab_len → width_for one n ≡ width_for other k → wrapping_for one n ≡ wrapping_for other k
same_wrapping one other n k m t w = grind (arith, common_steps, wrapping_by_width one n, wrapping_by_width other k)

pub same_test : (one other : LayoutSettings) (n k : ℕ) → one.mode ≡ other.mode → one.tab_len ≡ other.tab_len → width_for one n ≡ width_for other k → is_same_wrapping (wrapping_for one n) (wrapping_for other k) ≡ true
same_test one other n k m t w =
    ap (λ (x : Wrapping). is_same_wrapping x (wrapping_for other k)) (same_wrapping one other n k m t w) ∙ same_as_itself (wrapping_for other k)

-- lines that are wrapped in the same way have the same width
same_some : (m : WrapMode) (tab_len width other : ℕ) → (is_same_mode m m && (not (wraps m) || ((width == other) && (tab_len == tab_len)))) ≡ true → wraps m ≡ true → width ≡ other
same_some m tab_len width other e wrapped = grind (arith, common_steps, and_parts, eqb-true)

-- the width is none exactly where the wrapping is that of whole lines
abbrev Agree : WrapMode → ℕ → Option ℕ → Option ℕ → Type 0
Agree m tab_len one other = is_same_wrapping (wrapping_by m tab_len one) (wrapping_by m tab_len other) ≡ true → one ≡ other

agree : (m : WrapMode) (tab_len : ℕ) (one other : Option ℕ) → wraps m ≡ true → Agree m tab_len one other
agree m tab_len None None wrapped e = refl
agree mode.None tab_len None (Some width) wrapped e = absurd cc
agree mode.Word tab_len None (Some width) wrapped e = absurd cc
agree mode.Glyph tab_len None (Some width) wrapped e = absurd cc
agree mode.WordOrGlyph tab_len None (Some width) wrapped e = absurd cc
agree mode.None tab_len (Some width) None wrapped e = absurd cc
agree mode.Word tab_len (Some width) None wrapped e = absurd cc
agree mode.Glyph tab_len (Some width) None wrapped e = absurd cc
agree mode.WordOrGlyph tab_len (Some width) None wrapped e = absurd cc
agree m tab_len (Some width) (Some other) wrapped e = ap Some (same_some m tab_len width other e wrapped)

-- in the mode `None` there is no width
none_whole : (none : Bool) (settings : LayoutSettings) (n : ℕ) → settings.mode ≡ mode.None → width_if none settings n ≡ None
none_whole true settings n e = refl
none_whole false settings n e = ap (λ (m : WrapMode). columns_for_rows m settings.inner_width (line_number_columns settings.line_numbers n)) e

widths_by : (m : WrapMode) (tab_len : ℕ) (one other : Option ℕ) → (m ≡ mode.None → one ≡ other) → Agree m tab_len one other
widths_by mode.None tab_len one other whole e = whole refl
widths_by mode.Word tab_len one other whole e = agree mode.Word tab_len one other refl e
widths_by mode.Glyph tab_len one other whole e = agree mode.Glyph tab_len one other refl e
widths_by mode.WordOrGlyph tab_len one other whole e = agree mode.WordOrGlyph tab_len one other refl e

pub same_width : (one other : LayoutSettings) (n k : ℕ) → one.mode ≡ other.mode → one.tab_len ≡ other.tab_len → is_same_wrapping (wrapping_for one n) (wrapping_for other k) ≡ true → width_for one n ≡ width_for other k
same_width one other n k m t e = grind (arith, common_steps, widths_by, none_whole, wrapping_by_width one n, wrapping_by_width other k)

pub other_test : (one other : LayoutSettings) (n k : ℕ) → one.mode ≡ other.mode → one.tab_len ≡ other.tab_len → width_for one n ≢ width_for other k → is_same_wrapping (wrapping_for one n) (wrapping_for other k) ≡ false
other_test one other n k m t differs = by (is_same_wrapping (wrapping_for one n) (wrapping_for other k)) refl
  where
    by : (b : Bool) → is_same_wrapping (wrapping_for one n) (wrapping_for other k) ≡ b → is_same_wrapping (wrapping_for one n) (wrapping_for other k) ≡ false
    by true e = absurd (differs (same_width one other n k m t e))
    by false e = e
