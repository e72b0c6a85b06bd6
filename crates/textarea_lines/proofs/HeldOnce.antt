-- Lines with their rows that are wrapped once, as they are stored.
use Rattle.std.proofs.Common.{◌≡◌, ℕ, ◌+◌, ◌<◌, true, false, List, [], Option, Some, None, String, length, unwrap_or, ap, refl, sym, subst, ◌∙◌, arith}
use Rattle.std.specs.List.{AllZip}
use Rattle.std.proofs.lemmas.List.{length-map}
use Rattle.std.proofs.lemmas.Slice.Zip.{AllZip-long}
use Rattle.textarea_text.specs.Text.{Symbol, characters_of, joined, lines, lines_of, text_of}
use Rattle.textarea_wrap.specs.RowsView.{RowsView}
use Rattle.textarea_screen_map.specs.LineRows.{AreRowsOf, ticks_of}
use Rattle.textarea_screen_map.specs.Map.{MapView}
use Rattle.textarea_screen_map.specs.declared.layout.Wrapping.{Wrapping}
use Rattle.textarea_lines.specs.AtOnce.{IsChangedFrom, first_origins, line_origins, numbered, ticks_at_once, touched_count, touched_wrapped, unwrapped, wrapped_once}
use Rattle.textarea_lines.specs.RowsAtOnce.{AreRowsAtOnce, HaveOldRows}
use Rattle.textarea_lines.specs.Stored.{HoldsRows, IsStored}
use Rattle.textarea_lines.specs.TextLayout.{Origins, TextAndLayout, all_wrapped, layout_from_scratch, layout_of, with_origins}
use Rattle.textarea_lines.specs.Wrappings.{is_same_wrapping, wrapping_for}
use Rattle.textarea_lines.specs.declared.settings.LayoutSettings.{LayoutSettings}
use Rattle.textarea_lines.proofs.ComingLines.{ComesFrom, come_once}
use Rattle.textarea_lines.proofs.MapWidths.{same_width, same_wrapping}
use Rattle.textarea_lines.proofs.RowsOnce.{have_old}
use Rattle.textarea_lines.proofs.Stores.{count_stored, lines_stored, text_layout_of}
use Rattle.textarea_lines.proofs.WrappingOnce.{once_is}

-- ---- the numbered lines

pub numbered_is :
    {Z : Type 0} {o : Option Origins} (settings : LayoutSettings) (old copies : List (String Z)) (count start n : ℕ) (rows : List RowsView) (text_layout copy : TextAndLayout) (origins : Origins)
    → 0 < length old → text_layout_of o settings old count rows ≡ text_layout → lines_of copies ≡ lines_of old → start ≡ 0
    → copy ≡ layout_from_scratch (unwrapped settings) start (text_of copies) → n ≡ length copies → origins ≡ first_origins n
    → with_origins copy (Some origins) ≡ numbered text_layout
numbered_is settings old copies count start n rows text_layout copy origins some is same start_is copy_is n_is origins_are =
    let text : text_of copies ≡ text_layout.text = ap joined same ∙ ap (λ (l : TextAndLayout). l.text) is in
    let settings_are : settings ≡ text_layout.layout.settings = ap (λ (l : TextAndLayout). l.layout.settings) is in
    let many : n ≡ length (lines text_layout.text) =
    n_is ∙ sym (length-map copies characters_of) ∙ ap length same ∙ length-map old characters_of ∙ sym (count_stored old some) ∙ ap (λ (l : TextAndLayout). length (lines l.text)) is in
    ap (λ (l : TextAndLayout). with_origins l (Some origins)) copy_is
    ∙ ap (λ (m : ℕ). with_origins (layout_from_scratch (unwrapped settings) m (text_of copies)) (Some origins)) start_is
    ∙ ap (λ (t : List Symbol). with_origins (layout_from_scratch (unwrapped settings) 0 t) (Some origins)) text
    ∙ ap (λ (s : LayoutSettings). with_origins (layout_from_scratch (unwrapped s) 0 text_layout.text) (Some origins)) settings_are
    ∙ ap (λ (p : Origins). with_origins (layout_from_scratch (unwrapped text_layout.layout.settings) 0 text_layout.text) (Some p)) (origins_are ∙ ap first_origins many)

-- ---- lines that changes of the numbered ones led to

-- the stored lines, and those that changes led to
pub record Changing {Z : Type 0} (o : Option Origins) (settings : LayoutSettings) (items now : List (String Z)) (size count : ℕ) (map : MapView) (before changed : TextAndLayout) : Type 0 where
  pub holds : HoldsRows settings items size map
  pub is : text_layout_of o settings items count map.rows ≡ before
  pub some : 0 < length now
  pub text : text_of now ≡ changed.text
  pub led : IsChangedFrom before changed

lines_now :
    {Z : Type 0} {o : Option Origins} (settings : LayoutSettings) (items now : List (String Z)) (size count : ℕ) (map : MapView) (before changed : TextAndLayout)
    → Changing o settings items now size count map before changed → lines changed.text ≡ lines_of now
lines_now settings items now size count map before changed h = ap lines (sym h.text) ∙ lines_stored now h.some

lines_before :
    {Z : Type 0} {o : Option Origins} (settings : LayoutSettings) (items now : List (String Z)) (size count : ℕ) (map : MapView) (before changed : TextAndLayout)
    → Changing o settings items now size count map before changed → lines before.text ≡ lines_of items
lines_before settings items now size count map before changed h = ap (λ (l : TextAndLayout). lines l.text) (sym h.is) ∙ lines_stored items h.holds.stored.some

-- where they come from
come :
    {Z : Type 0} {o : Option Origins} (settings : LayoutSettings) (items now : List (String Z)) (size count : ℕ) (map : MapView) (before changed : TextAndLayout)
    → Changing o settings items now size count map before changed → AllZip (ComesFrom (lines_of items)) (unwrap_or changed.layout.origins []) (lines_of now)
come settings items now size count map before changed h =
    let known = come_once before changed h.led in
    let origins : line_origins (length (lines before.text)) h.led.splices ≡ unwrap_or changed.layout.origins [] = sym (ap (λ (p : Option Origins). unwrap_or p []) known.origins) in
    subst (λ (p : Origins). AllZip (ComesFrom (lines_of items)) p (lines_of now)) origins
    (subst (λ (l : List (List ℕ)). AllZip (ComesFrom l) (line_origins (length (lines before.text)) h.led.splices) (lines_of now)) (lines_before settings items now size count map before changed h)
    (subst (λ (l : List (List ℕ)). AllZip (ComesFrom (lines before.text)) (line_origins (length (lines before.text)) h.led.splices) l) (lines_now settings items now size count map before changed h) known.lines))

pub long_once :
    {Z : Type 0} {o : Option Origins} (settings : LayoutSettings) (items now borrowed_lines : List (String Z)) (size count : ℕ) (map : MapView) (before changed : TextAndLayout) (origins : Origins)
    → Changing o settings items now size count map before changed → borrowed_lines ≡ now → origins ≡ unwrap_or changed.layout.origins [] → length origins ≡ length borrowed_lines
long_once settings items now borrowed_lines size count map before changed origins h borrowed_is origins_are =
    let long = AllZip-long (ComesFrom (lines_of items)) (unwrap_or changed.layout.origins []) (lines_of now) (come settings items now size count map before changed h) in
    omega (arith, long, ap length origins_are, ap length borrowed_is, length-map now characters_of)

pub rows_once :
    {Z : Type 0} {o : Option Origins} (settings : LayoutSettings) (items now borrowed_lines : List (String Z)) (size count : ℕ) (map : MapView) (before changed : TextAndLayout) (origins : Origins)
    → Changing o settings items now size count map before changed → borrowed_lines ≡ now → origins ≡ unwrap_or changed.layout.origins [] → HaveOldRows map origins (lines_of borrowed_lines)
rows_once settings items now borrowed_lines size count map before changed origins h borrowed_is origins_are =
    rw (borrowed_is, origins_are) (have_old map (lines_of items) (unwrap_or changed.layout.origins []) (lines_of now) h.holds.text_layout (come settings items now size count map before changed h))

-- ---- how they are wrapped

-- whether they are wrapped as before, of the text and of the stored lines
pub test_once :
    {Z : Type 0} {o : Option Origins} (settings : LayoutSettings) (items now : List (String Z)) (size count : ℕ) (map : MapView) (before changed : TextAndLayout)
    → Changing o settings items now size count map before changed
    → is_same_wrapping (wrapping_for before.layout.settings (length (lines changed.text))) (wrapping_for before.layout.settings (length (lines before.text)))
    ≡ is_same_wrapping (wrapping_for settings (length now)) map.wrapping
test_once settings items now size count map before changed h =
    rw (← h.text, ← h.is, count_stored now h.some, count_stored items h.holds.stored.some, h.holds.wrapping_is) refl

pub holds_once :
    {Z : Type 0} {o : Option Origins} (settings : LayoutSettings) (items now : List (String Z)) (size count after : ℕ) (map new : MapView) (before changed : TextAndLayout)
    → Changing o settings items now size count map before changed
    → is_same_wrapping (wrapping_for before.layout.settings (length (lines changed.text))) (wrapping_for before.layout.settings (length (lines before.text))) ≡ true
    → IsStored now after → new.wrapping ≡ map.wrapping → AreRowsOf map.wrapping (lines_of now) new.rows → HoldsRows settings now after new
holds_once settings items now size count after map new before changed h same stored wrapping right =
    let test : is_same_wrapping (wrapping_for settings (length now)) (wrapping_for settings (length items)) ≡ true =
    ap (is_same_wrapping (wrapping_for settings (length now))) (sym h.holds.wrapping_is) ∙ sym (test_once settings items now size count map before changed h) ∙ same in
    let as_before : wrapping_for settings (length now) ≡ wrapping_for settings (length items) =
    same_wrapping settings settings (length now) (length items) refl refl (same_width settings settings (length now) (length items) refl refl test) in
    record {
      stored = stored;
      wrapping_is = wrapping ∙ h.holds.wrapping_is ∙ sym as_before;
      text_layout = subst (λ (w : Wrapping). AreRowsOf w (lines_of now) new.rows) (sym wrapping) right;
    }

-- ---- what contracts see of them

pub layout_once :
    {Z : Type 0} {o : Option Origins} (settings : LayoutSettings) (items now borrowed_lines : List (String Z)) (size count start after : ℕ) (map new : MapView) (before changed : TextAndLayout) (origins : Origins)
    → Changing o settings items now size count map before changed
    → is_same_wrapping (wrapping_for before.layout.settings (length (lines changed.text))) (wrapping_for before.layout.settings (length (lines before.text))) ≡ true
    → start ≡ before.layout.count → origins ≡ unwrap_or changed.layout.origins []
    → AreRowsAtOnce map start (lines_of borrowed_lines) origins new.rows after → text_layout_of None settings now after new.rows ≡ wrapped_once before changed
layout_once settings items now borrowed_lines size count start after map new before changed origins h same start_is origins_are k =
    let settings_are : settings ≡ before.layout.settings = ap (λ (l : TextAndLayout). l.layout.settings) h.is in
    let old : ticks_of map.rows ≡ before.layout.ticks = ap (λ (l : TextAndLayout). l.layout.ticks) h.is in
    let count_is : after ≡ before.layout.count + touched_count (unwrap_or changed.layout.origins []) = k.counted ∙ ap (λ (n : ℕ). n + touched_count origins) start_is ∙ ap (λ (p : Origins). before.layout.count + touched_count p) origins_are in
    let ticks_are : ticks_of new.rows ≡ ticks_at_once before.layout.ticks before.layout.count (unwrap_or changed.layout.origins []) =
    k.ticks ∙ ap (λ (t : List ℕ). ticks_at_once t start origins) old ∙ ap (λ (n : ℕ). ticks_at_once before.layout.ticks n origins) start_is ∙ ap (ticks_at_once before.layout.ticks before.layout.count) origins_are in
    let layout : layout_of settings after new.rows None ≡ touched_wrapped before.layout (unwrap_or changed.layout.origins []) = cc in
    let as_once : layout_of settings after new.rows None ≡ (wrapped_once before changed).layout = layout ∙ sym (once_is before changed true same) in
    cc (h.text, as_once)

-- all lines are wrapped again
pub scratch_once :
    {Z : Type 0} {o : Option Origins} (settings : LayoutSettings) (items now : List (String Z)) (size count start : ℕ) (map : MapView) (before changed : TextAndLayout) (text : List Symbol)
    → Changing o settings items now size count map before changed
    → is_same_wrapping (wrapping_for before.layout.settings (length (lines changed.text))) (wrapping_for before.layout.settings (length (lines before.text))) ≡ false
    → start ≡ count → text ≡ changed.text → layout_from_scratch settings start text ≡ wrapped_once before changed
scratch_once settings items now size count start map before changed text h differs start_is text_is =
    let settings_are : settings ≡ before.layout.settings = ap (λ (l : TextAndLayout). l.layout.settings) h.is in
    let count_is : start ≡ before.layout.count = start_is ∙ ap (λ (l : TextAndLayout). l.layout.count) h.is in
    let layout : all_wrapped settings start (length (lines text)) ≡ all_wrapped before.layout.settings before.layout.count (length (lines changed.text)) = cc in
    let as_once : all_wrapped settings start (length (lines text)) ≡ (wrapped_once before changed).layout = layout ∙ sym (once_is before changed false differs) in
    cc (text_is, as_once)
