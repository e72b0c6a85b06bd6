-- The lines that splices wrap that are made at once.
use Rattle.std.proofs.Common.{◌≡◌, ◌≢◌, inl, inr, ℕ, ◌≤◌, Bool, true, false, cond, List, [], Option, length, unwrap_or, ap, refl, sym, subst, ◌∙◌, arith}
use Rattle.textarea_text.specs.Splice.{Splice, CanApply}
use Rattle.textarea_text.specs.Text.{lines}
use Rattle.textarea_screen_map.specs.LineRows.{AreRowsOf}
use Rattle.textarea_screen_map.specs.declared.layout.Wrapping.{Wrapping}
use Rattle.textarea_lines.specs.AtOnce.{IsChangedFrom, WrapsAtOnce, WrapsTouchedOnce, applied_each, line_origins, numbered, ticks_at_once, touched_wrapped, wrapped_once}
use Rattle.textarea_lines.specs.LineWraps.{WrapsAllLines, map_width, width_for}
use Rattle.textarea_lines.specs.TextLayout.{Layout, Origins, TextAndLayout, all_wrapped, wrapping_of}
use Rattle.textarea_lines.specs.Wrappings.{is_same_wrapping, wrapping_for}
use Rattle.textarea_lines.proofs.ComingLines.{come_once}
use Rattle.textarea_lines.proofs.MapWidths.{other_test, same_test, same_wrapping}
use Rattle.textarea_lines.proofs.RowsOnce.{keeps_untouched}
use Rattle.textarea_lines.proofs.SplicedRows.{OneMap}
use Rattle.textarea_lines.proofs.Wrapping.{all_grow, two_widths}

-- ---- the layout

-- by whether lines are wrapped as before
abbrev once_if : Bool → TextAndLayout → TextAndLayout → Layout
once_if b before changed =
    cond b (touched_wrapped before.layout (unwrap_or changed.layout.origins [])) (all_wrapped before.layout.settings before.layout.count (length (lines changed.text)))

settings_if : (b : Bool) (before changed : TextAndLayout) → (once_if b before changed).settings ≡ before.layout.settings
settings_if true before changed = refl
settings_if false before changed = refl

abbrev wraps_same : TextAndLayout → TextAndLayout → Bool
wraps_same before changed = is_same_wrapping (wrapping_for before.layout.settings (length (lines changed.text))) (wrapping_for before.layout.settings (length (lines before.text)))

pub once_is : (before changed : TextAndLayout) (b : Bool) → wraps_same before changed ≡ b → (wrapped_once before changed).layout ≡ once_if b before changed
once_is before changed b e = ap (λ (t : Bool). once_if t before changed) e

settings_once : (before changed : TextAndLayout) → (wrapped_once before changed).layout.settings ≡ before.layout.settings
settings_once before changed = settings_if (wraps_same before changed) before changed

width_once : (before changed : TextAndLayout) → map_width (wrapped_once before changed) ≡ width_for before.layout.settings (length (lines changed.text))
width_once before changed = ap (λ s. width_for s (length (lines changed.text))) (settings_once before changed)

-- ---- the law

touched_once :
    (one : OneMap) (before changed : TextAndLayout) (h : IsChangedFrom before changed) → map_width (wrapped_once before changed) ≡ map_width before
    → WrapsTouchedOnce before h.splices (wrapped_once before changed)
touched_once one before changed h same =
    let settings = before.layout.settings in
    let known = come_once before changed h in
    let origins = line_origins (length (lines before.text)) h.splices in
    let width : width_for settings (length (lines changed.text)) ≡ width_for settings (length (lines before.text)) = sym (width_once before changed) ∙ same in
    let layout : (wrapped_once before changed).layout ≡ touched_wrapped before.layout origins =
    once_is before changed true (same_test settings settings (length (lines changed.text)) (length (lines before.text)) refl refl width)
    ∙ ap (λ (o : Option Origins). touched_wrapped before.layout (unwrap_or o [])) known.origins in
    let wrapping : wrapping_of (wrapped_once before changed) ≡ wrapping_of before =
    ap (λ s. wrapping_for s (length (lines changed.text))) (settings_once before changed) ∙ same_wrapping settings settings (length (lines changed.text)) (length (lines before.text)) refl refl width in
    record {
      count = ap (λ (l : Layout). l.count) layout;
      rows = λ first second f s.
          keeps_untouched one (wrapping_of before) (lines before.text) first before.layout.count origins (lines changed.text) second f.text_layout known.lines
          (subst (λ (w : Wrapping). AreRowsOf w (lines changed.text) second) wrapping s.text_layout)
          (s.ticks ∙ ap (λ (l : Layout). l.ticks) layout ∙ ap (λ (t : List ℕ). ticks_at_once t before.layout.count origins) (sym f.ticks));
    }

all_once : (before changed : TextAndLayout) → map_width (wrapped_once before changed) ≢ map_width before → WrapsAllLines before (wrapped_once before changed)
all_once before changed other =
    let settings = before.layout.settings in
    let layout = once_is before changed false (other_test settings settings (length (lines changed.text)) (length (lines before.text)) refl refl (λ e. other (width_once before changed ∙ e))) in
    record { count = ap (λ (l : Layout). l.count) layout; ticks = ap (λ (l : Layout). l.ticks) layout }

pub wraps_once : (one : OneMap) (before changed : TextAndLayout) (h : IsChangedFrom before changed) → WrapsAtOnce before h.splices (wrapped_once before changed)
wraps_once one before changed h = record {
  text = (come_once before changed h).text;
  settings = settings_once before changed;
  same_width = touched_once one before changed h;
  other_width = all_once before changed;
}

pub wraps_at_once :
    (one : OneMap) (text_layout : TextAndLayout) (splices : List Splice) → CanApply text_layout.text splices
    → WrapsAtOnce text_layout splices (wrapped_once text_layout (applied_each (numbered text_layout) splices))
wraps_at_once one text_layout splices can = wraps_once one text_layout (applied_each (numbered text_layout) splices) (record { splices = splices; fit = can; leads = refl })

pub once_grows : (old new : TextAndLayout) (splices : List Splice) → WrapsAtOnce old splices new → old.layout.count ≤ new.layout.count
once_grows old new splices h =
    elim (two_widths (map_width new) (map_width old)) [
      | inl same ↦ omega (arith, (h.same_width same).count)
      | inr other ↦ all_grow old new (h.other_width other)
    ]
