-- If two ways to wrap are the same, lines wrapped in one are wrapped in the other.
use Rattle.std.proofs.lemmas.Grind.{common_steps}
use Rattle.std.proofs.Common.{arith, ◌≡◌, ℕ, Bool, true, false, ◌==◌, not, cond, List, ap, sym, ◌∙◌, refl}
use Rattle.std.proofs.lemmas.Bool.{and_parts, eqb-true}
use Rattle.textarea_wrap.specs.RowsView.{RowsView}
use Rattle.textarea_wrap.specs.declared.wrap.WrapMode.{WrapMode}
use Rattle.textarea_wrap.specs.declared.wrap.WrapMode.TheVariants as mode
use Rattle.textarea_screen_map.specs.declared.layout.Wrapping.{Wrapping}
use Rattle.textarea_screen_map.specs.LineRows.{AreRowsOf, with_tab_len}
use Rattle.textarea_screen_map.proofs.Layouts.{whole_anywhere}
use Rattle.textarea_lines.specs.declared.settings.LayoutSettings.{LayoutSettings}
use Rattle.textarea_lines.specs.Wrappings.{wrapped_at_width, is_same_wrapping, is_same_mode, is_wrapped, whole_lines, wrapping_for, wraps}

same_mode : (one other : WrapMode) → is_same_mode one other ≡ true → one ≡ other
same_mode mode.None mode.None e = refl
same_mode mode.Word mode.Word e = refl
same_mode mode.Glyph mode.Glyph e = refl
same_mode mode.WordOrGlyph mode.WordOrGlyph e = refl
same_mode one other e = absurd cc

unwrapped : (m : WrapMode) → wraps m ≡ false → m ≡ mode.None
unwrapped mode.None e = refl
unwrapped m e = absurd cc

-- ---- one wrapping under both settings

abbrev the_wrapping : WrapMode → ℕ → ℕ → Wrapping
the_wrapping m width tab_len = record { mode = m; width = width; tab_len = tab_len }

wrapping_is : (m m' : WrapMode) (width width' tab_len tab_len' : ℕ) → m ≡ m' → width ≡ width' → tab_len ≡ tab_len' → the_wrapping m width tab_len ≡ the_wrapping m' width' tab_len'
wrapping_is m m' width width' tab_len tab_len' a b c = cc

-- lines that are wrapped are wrapped in the same way only by the same wrapping
same_wrapping : (one other : Wrapping) → wraps one.mode ≡ true → is_same_wrapping one other ≡ true → other ≡ one
same_wrapping one other wrapped e =
    let components = and_parts _ _ e in
    let numbers = and_parts _ _ (rw wrapped at components.1) in
    let mode_is = same_mode one.mode other.mode components.0 in
    let width = eqb-true one.width other.width numbers.0 in
    let tab_len = eqb-true one.tab_len other.tab_len numbers.1 in
    wrapping_is other.mode one.mode other.width one.width other.tab_len one.tab_len (sym mode_is) (sym width) (sym tab_len)

-- rows of lines that are wrapped in one way are their rows in the other
pub AreRowsOf-same : (one other : Wrapping) (lines : List (List ℕ)) (rows : List RowsView) → is_same_wrapping one other ≡ true → AreRowsOf other lines rows → AreRowsOf one lines rows
AreRowsOf-same one other lines rows e h = by (wraps one.mode) refl
  where
    by : (b : Bool) → wraps one.mode ≡ b → AreRowsOf one lines rows
    by true wrapped = rw (same_wrapping one other wrapped e) at h
    by false whole =
        let none = unwrapped one.mode whole in
        whole_anywhere other one lines rows (sym (same_mode one.mode other.mode (and_parts _ _ e).0) ∙ none) none h

-- settings under which lines are wrapped, in the same way as before
pub same_wrapped : (settings : LayoutSettings) (n : ℕ) (before : Wrapping) → is_wrapped settings ≡ true → is_same_wrapping (wrapping_for settings n) before ≡ true → before ≡ wrapping_for settings n
same_wrapped settings n before wrapped same = grind (arith, common_steps, same_wrapping, and_parts)

-- settings under which they aren't
pub whole_is : (settings : LayoutSettings) (n : ℕ) → is_wrapped settings ≡ false → wrapping_for settings n ≡ whole_lines settings
whole_is settings n e = ap (λ (b : Bool). cond b (wrapped_at_width settings settings.inner_width n) (whole_lines settings)) e

pub whole_before : (settings : LayoutSettings) (n : ℕ) (before : Wrapping) → is_wrapped settings ≡ false → is_same_wrapping (wrapping_for settings n) before ≡ true → before.mode ≡ mode.None
whole_before settings n before whole same = grind (arith, common_steps, whole_is settings n whole, same_mode, and_parts)

whole_width : (settings : LayoutSettings) (n : ℕ) → (wrapping_for settings n).mode ≡ mode.None → (wrapping_for settings n).width ≡ 1
whole_width settings n e = by (is_wrapped settings) refl e
  where
    by :
        (b : Bool) → is_wrapped settings ≡ b → (cond b (wrapped_at_width settings settings.inner_width n) (whole_lines settings)).mode ≡ mode.None
        → (cond b (wrapped_at_width settings settings.inner_width n) (whole_lines settings)).width ≡ 1
    by true wrapped e = absurd (cc ((and_parts (not (settings.inner_width == 0)) (wraps settings.mode) wrapped).1, e))
    by false whole e = refl

pub same_whole :
    (old settings : LayoutSettings) (n : ℕ) (before : Wrapping) → before ≡ wrapping_for old n → is_wrapped settings ≡ false
    → is_same_wrapping (wrapping_for settings n) before ≡ true → with_tab_len before settings.tab_len ≡ wrapping_for settings n
same_whole old settings n before is whole same =
    grind (arith, common_steps, whole_before settings n before whole same, whole_width, wrapping_is, whole_is settings n whole)
