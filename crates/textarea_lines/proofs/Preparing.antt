-- Rows that are prepared beside the current ones: of some lines, or of all.
use Rattle.std.proofs.lemmas.Grind.{common_steps}
use Rattle.std.proofs.Common.{arith, ◌≡◌, ℕ, ◌+◌, ◌-◌, true, false, List, Option, length, String, Result, Ok, Err, Global, refl, sym, ap, ◌∙◌}
use Rattle.std.specs.Result.{IfOk, OnOk}
use Rattle.std.specs.declared.alloc.AllocError.{AllocError}
use Rattle.std.proofs.lemmas.List.{length-map}
use Rattle.textarea_text.specs.declared.rows.Replacement.{Replacement}
use Rattle.textarea_screen_map.specs.Map.{MapView}
use Rattle.textarea_screen_map.specs.Prepared.{IsPreparedFor, rows_in}
use Rattle.textarea_screen_map.specs.declared.screen_map.PreparedRows.{PreparedRows}
use Rattle.textarea_lines.specs.Replacing.{AreReadyRows, CanReplace}
use Rattle.textarea_util.specs.Replaced.{replaced}
use Rattle.textarea_text.specs.Text.{characters_of, lines_of}
use Rattle.textarea_wrap.specs.RowsView.{RowsView}
use Rattle.textarea_screen_map.specs.declared.layout.Wrapping.{Wrapping}
use Rattle.textarea_screen_map.specs.LineRows.{AreRowsOf, ticks_after, ticks_of}
use Rattle.textarea_screen_map.proofs.Layouts.{AreRowsOf-replaced, length-AreRowsOf}
use Rattle.textarea_lines.specs.declared.settings.LayoutSettings.{LayoutSettings}
use Rattle.textarea_lines.specs.TextLayout.{Layout, Origins, after_replacement, count_after, lines_after}
use Rattle.textarea_lines.specs.Wrappings.{is_same_wrapping, wrapping_for}
use Rattle.textarea_lines.proofs.Layouts.{map-replaced, replaced_whole}
use Rattle.textarea_lines.proofs.SameWraps.{AreRowsOf-same}

-- ---- rows

rows_of_some :
    {Z : Type 0} (was now after : Wrapping) (items new borrowed_lines : List (String Z)) (row count at number : ℕ) (rows wraps others : List RowsView)
    → is_same_wrapping after was ≡ true → after ≡ now → AreRowsOf was (lines_of items) rows → borrowed_lines ≡ new
    → AreRowsOf after (lines_of borrowed_lines) wraps → at ≡ row → number ≡ count → others ≡ wraps → AreRowsOf now (lines_of (replaced items row count new)) (replaced rows at number others)
rows_of_some was now after items new borrowed_lines row count at number rows wraps others same is h borrowed_is k at_is number_is others_is =
    grind (
      arith,
      common_steps,
      map-replaced characters_of items new row count,
      AreRowsOf-replaced after (lines_of items) (lines_of new) rows wraps row count (AreRowsOf-same after was (lines_of items) rows same h) (rw borrowed_is at k),
      AreRowsOf-same after was (lines_of items) rows same h,
    )

rows_of_all :
    (now after : Wrapping) (lines : List (List ℕ)) (n at number : ℕ) (rows wraps others : List RowsView) → length rows ≡ n → after ≡ now
    → AreRowsOf after lines wraps → at ≡ 0 → number ≡ n → others ≡ wraps → AreRowsOf now lines (replaced rows at number others)
rows_of_all now after lines n at number rows wraps others size is k at_is number_is others_is =
    rw (← is, at_is, number_is, others_is, replaced_whole rows wraps n size) k

-- ---- what contracts see of them

abbrev screen_at : LayoutSettings → ℕ → List ℕ → Option Origins → Layout
screen_at settings count ticks origins = record { settings = settings; count = count; ticks = ticks; origins = origins }

screen_of_some :
    (settings : LayoutSettings) (old count n row removed_lines coming size at number : ℕ) (rows wraps others : List RowsView)
    → is_same_wrapping (wrapping_for settings (n - removed_lines + coming)) (wrapping_for settings n) ≡ true → count ≡ old + size → size ≡ coming
    → ticks_of wraps ≡ ticks_after old size → at ≡ row → number ≡ removed_lines → others ≡ wraps
    → (o : Option Origins) → screen_at settings count (ticks_of (replaced rows at number others)) o ≡ after_replacement (screen_at settings old (ticks_of rows) o) n row removed_lines coming
screen_of_some settings old count n row removed_lines coming size at number rows wraps others same counted size_is ticks at_is number_is others_is o =
    cc (map-replaced (λ (r : RowsView). r.tick) rows wraps row removed_lines)

screen_of_all :
    (settings : LayoutSettings) (old count n row removed_lines coming size at number : ℕ) (rows wraps others : List RowsView)
    → is_same_wrapping (wrapping_for settings (n - removed_lines + coming)) (wrapping_for settings n) ≡ false → length rows ≡ n → count ≡ old + size
    → size ≡ n - removed_lines + coming → ticks_of wraps ≡ ticks_after old size → at ≡ 0 → number ≡ n → others ≡ wraps
    → (o : Option Origins) → screen_at settings count (ticks_of (replaced rows at number others)) o ≡ after_replacement (screen_at settings old (ticks_of rows) o) n row removed_lines coming
screen_of_all settings old count n row removed_lines coming size at number rows wraps others differs long counted size_is ticks at_is number_is others_is o =
    cc (replaced_whole rows wraps n long)

-- ---- what is ready

-- if lines are wrapped as before, the rows of the new lines
pub some_ready :
    (settings : LayoutSettings) (lines borrowed_lines : List (String Global)) (old now : MapView) (new : Replacement) (count after : ℕ) (wrapping : Wrapping) (r : Result PreparedRows AllocError)
    → CanReplace settings lines old new → now.rows ≡ old.rows → borrowed_lines ≡ new.lines.items
    → wrapping ≡ wrapping_for settings (count_after (length lines) new) → is_same_wrapping wrapping old.wrapping ≡ true
    → IfOk r (IsPreparedFor now new.row new.count wrapping) → IfOk r (λ p. AreRowsOf wrapping (lines_of borrowed_lines) (rows_in p.rows)) → IfOk r
    (λ p. ticks_of (rows_in p.rows) ≡ ticks_after count (length borrowed_lines)) → OnOk r (after ≡ count + length borrowed_lines) → IfOk r (AreReadyRows settings lines now new count after)
some_ready settings lines borrowed_lines old now new count after wrapping (Err e) can stay is w_is same prepared right ticks counted = tt
some_ready settings lines borrowed_lines old now new count after wrapping (Ok p) can stay is w_is same prepared right ticks counted =
    record {
      ready = prepared.ready;
      wrapping = prepared.wrapping_is ∙ w_is;
      rows =
          rows_of_some old.wrapping p.wrapping wrapping lines new.lines.items borrowed_lines new.row new.count p.row p.count now.rows (rows_in p.rows)
          (rows_in p.rows) same (sym prepared.wrapping_is) (rw stay can.rows) is right prepared.row_is prepared.count_is refl;
      layout =
          screen_of_some settings count after (length lines) new.row new.count _ (length borrowed_lines) p.row p.count now.rows (rows_in p.rows)
          (rows_in p.rows) (rw (← w_is, ← can.wrapping) same) counted (ap length is ∙ sym new.lines.ok.0) ticks prepared.row_is prepared.count_is refl;
    }

-- otherwise the rows of all lines
pub all_ready :
    (settings : LayoutSettings) (lines : List (String Global)) (old now : MapView) (new : Replacement) (count after : ℕ) (wrapping : Wrapping) (r : Result PreparedRows AllocError)
    → CanReplace settings lines old new → now.rows ≡ old.rows → wrapping ≡ wrapping_for settings (count_after (length lines) new) → is_same_wrapping wrapping old.wrapping ≡ false
    → (wraps : List RowsView) → AreRowsOf wrapping (lines_after lines new) wraps → ticks_of wraps ≡ ticks_after count (count_after (length lines) new) → after ≡ count + count_after (length lines) new
    → IfOk r (IsPreparedFor now 0 (length lines) wrapping) → IfOk r (λ p. rows_in p.rows ≡ wraps) → IfOk r (AreReadyRows settings lines now new count after)
all_ready settings lines old now new count after wrapping (Err e) can stay w_is differs wraps right ticks counted prepared is = tt
all_ready settings lines old now new count after wrapping (Ok p) can stay w_is differs wraps right ticks counted prepared is =
    let long : length now.rows ≡ length lines = ap length stay ∙ length-AreRowsOf old.wrapping (lines_of lines) old.rows can.rows ∙ length-map lines characters_of in
    record {
      ready = prepared.ready;
      wrapping = prepared.wrapping_is ∙ w_is;
      rows = rows_of_all p.wrapping wrapping (lines_after lines new) (length lines) p.row p.count now.rows wraps (rows_in p.rows) long (sym prepared.wrapping_is) right prepared.row_is prepared.count_is is;
      layout = screen_of_all settings count after (length lines) new.row new.count _ _ p.row p.count now.rows wraps (rows_in p.rows) (rw (← w_is, ← can.wrapping) differs) long counted refl ticks prepared.row_is prepared.count_is is;
    }
