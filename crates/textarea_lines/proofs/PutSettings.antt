-- A text with other settings, or with its own.
use Rattle.std.proofs.Common.{◌≡◌, ℕ, ◌==◌, ◌&&◌, ◌||◌, Bool, true, false, cond, not, refl, eq-eqb}
use Rattle.textarea_wrap.specs.declared.wrap.WrapMode.{WrapMode}
use Rattle.textarea_wrap.specs.declared.wrap.WrapMode.TheVariants as mode
use Rattle.textarea_screen_map.specs.declared.layout.Wrapping.{Wrapping}
use Rattle.textarea_lines.specs.TextLayout.{TextAndLayout, rewrapped, with_settings, keeps_wrapping}
use Rattle.textarea_lines.specs.Wrappings.{wrapped_at_width, is_same_wrapping, is_same_mode, whole_lines, wraps}
use Rattle.textarea_lines.specs.declared.settings.LayoutSettings.{LayoutSettings}

-- ---- other settings

abbrev put_if : Bool → TextAndLayout → LayoutSettings → TextAndLayout
put_if b text_layout settings =
    cond b (record { text = text_layout.text; layout = record text_layout.layout { settings = settings } }) (rewrapped text_layout settings)

put_if_text : (b : Bool) (text_layout : TextAndLayout) (settings : LayoutSettings) → (put_if b text_layout settings).text ≡ text_layout.text
put_if_text true text_layout settings = refl
put_if_text false text_layout settings = refl

put_if_settings : (b : Bool) (text_layout : TextAndLayout) (settings : LayoutSettings) → (put_if b text_layout settings).layout.settings ≡ settings
put_if_settings true text_layout settings = refl
put_if_settings false text_layout settings = refl

pub text_stays : (text_layout : TextAndLayout) (settings : LayoutSettings) → (with_settings text_layout settings).text ≡ text_layout.text
text_stays text_layout settings = put_if_text (keeps_wrapping text_layout settings) text_layout settings

pub settings_put : (text_layout : TextAndLayout) (settings : LayoutSettings) → (with_settings text_layout settings).layout.settings ≡ settings
settings_put text_layout settings = put_if_settings (keeps_wrapping text_layout settings) text_layout settings

-- ---- another width

abbrev settings_of : WrapMode → ℕ → Bool → ℕ → LayoutSettings
settings_of wrap tab_len numbers width = record { mode = wrap; tab_len = tab_len; line_numbers = numbers; inner_width = width }

abbrev wrapping_if : Bool → LayoutSettings → ℕ → Wrapping
wrapping_if b settings line_count = cond b (wrapped_at_width settings settings.inner_width line_count) (whole_lines settings)

-- ---- its own

same_mode : (wrap : WrapMode) → is_same_mode wrap wrap ≡ true
same_mode mode.None = refl
same_mode mode.Word = refl
same_mode mode.Glyph = refl
same_mode mode.WordOrGlyph = refl

all_true : (a b c d : Bool) → a ≡ true → c ≡ true → d ≡ true → (a && (b || (c && d))) ≡ true
all_true true true c d ea ec ed = refl
all_true true false true d ea ec ed = ed
all_true true false false d ea ec ed = ec
all_true false b c d ea ec ed = ea

pub same_as_itself : (w : Wrapping) → is_same_wrapping w w ≡ true
same_as_itself w = all_true (is_same_mode w.mode w.mode) (not (wraps w.mode)) (w.width == w.width) (w.tab_len == w.tab_len) (same_mode w.mode) (eq-eqb w.width w.width refl) (eq-eqb w.tab_len w.tab_len refl)
