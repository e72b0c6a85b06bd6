-- A text with its layout after several splices that are made at once: each line that one of them
-- touched is wrapped once.
use Rattle.std.specs.Prelude.{◌≡◌, ◌≢◌, ℕ, ◌+◌, List, [], ◌∷◌, Some, None, get_or, length, map, slice_get, unwrap_or, if◌then◌else◌}
use Rattle.std.specs.List.{range_with_len}
use Rattle.textarea_text.specs.Splice.{CanApply, Splice, applied_all}
use Rattle.textarea_text.specs.Text.{lines}
use Rattle.textarea_wrap.specs.RowsView.{RowsView}
use Rattle.textarea_lines.specs.declared.settings.LayoutSettings.{LayoutSettings}
use Rattle.textarea_lines.specs.LineWraps.{WrapsAllLines, map_width}
use Rattle.textarea_lines.specs.TextLayout.{Layout, Origins, TextAndLayout, all_wrapped, applied_to, origins_spliced}
use Rattle.textarea_lines.specs.TextRows.{HasLayout}
use Rattle.textarea_lines.specs.Wrappings.{is_same_wrapping, wrapping_for}

-- ---- where lines come from

-- each of `line_count` lines is itself: the first is the line 0
abbrev pub first_origins : ℕ → Origins
first_origins line_count = map Some (range_with_len 0 line_count)

-- where lines come from after splices, one after another
abbrev pub origins_after : Origins → List Splice → Origins
origins_after origins [] = origins
origins_after origins (splice ∷ splices) = origins_after (origins_spliced origins splice) splices

-- For each line after the splices, the number, from 0, of the line that it was before all of them, or
-- `None` if one of them touched it. There were `line_count` lines before.
abbrev pub line_origins : ℕ → List Splice → Origins
line_origins line_count splices = origins_after (first_origins line_count) splices

-- the number of lines that a splice touched
abbrev pub touched_count : Origins → ℕ
touched_count [] = 0
touched_count (Some line ∷ origins) = touched_count origins
touched_count (None ∷ origins) = touched_count origins + 1

-- ---- lines that aren't wrapped, and numbered

-- the settings with an inner area without a column: no line is wrapped
abbrev pub unwrapped : LayoutSettings → LayoutSettings
unwrapped settings = record {
  mode = settings.mode;
  tab_len = settings.tab_len;
  line_numbers = settings.line_numbers;
  inner_width = 0;
}

-- the text with lines that aren't wrapped, and numbered
abbrev pub numbered : TextAndLayout → TextAndLayout
numbered text_layout =
    let line_count : ℕ = length (lines text_layout.text) in
    record {
      text = text_layout.text;
      layout = record (all_wrapped (unwrapped text_layout.layout.settings) 0 line_count) {
        origins = Some (first_origins line_count);
      };
    }

-- the text and its layout after splices, one after another
abbrev pub applied_each : TextAndLayout → List Splice → TextAndLayout
applied_each text_layout [] = text_layout
applied_each text_layout (splice ∷ splices) = applied_each (applied_to text_layout splice) splices

-- splices of the numbered lines of `before`, one after another, led here
pub record IsChangedFrom (before changed : TextAndLayout) : Type 0 where
  pub splices : List Splice
  pub fit : CanApply before.text splices
  pub leads : changed ≡ applied_each (numbered before) splices

-- ---- their lines, wrapped once

-- The ticks of lines that come from there, where `ticks` are those of the lines before: a line that
-- no splice touched keeps its tick, and each other has the next one after `count`.
abbrev pub ticks_at_once : List ℕ → ℕ → Origins → List ℕ
ticks_at_once ticks count [] = []
ticks_at_once ticks count (Some line ∷ origins) = get_or ticks line 0 ∷ ticks_at_once ticks count origins
ticks_at_once ticks count (None ∷ origins) = (count + 1) ∷ ticks_at_once ticks (count + 1) origins

-- the layout of lines that come from there: only those are wrapped that a splice touched
abbrev pub touched_wrapped : Layout → Origins → Layout
touched_wrapped layout origins = record {
  settings = layout.settings;
  count = layout.count + touched_count origins;
  ticks = ticks_at_once layout.ticks layout.count origins;
  origins = None;
}

-- The lines of `changed`, to which splices of the numbered lines of `before` led, as the settings of
-- `before` wrap them: those that a splice touched are wrapped, each once, or all lines if their
-- number changes how lines are wrapped. They are not numbered any more.
abbrev pub wrapped_once : TextAndLayout → TextAndLayout → TextAndLayout
wrapped_once before changed =
    let settings = before.layout.settings in
    let old : ℕ = length (lines before.text) in
    let new : ℕ = length (lines changed.text) in
    record {
      text = changed.text;
      layout =
          if is_same_wrapping (wrapping_for settings new) (wrapping_for settings old)
          then touched_wrapped before.layout (unwrap_or changed.layout.origins [])
          else all_wrapped settings before.layout.count new;
    }

-- ---- what that means, line by line

-- Each line that no splice touched has the rows that it had before, tick included. The others have
-- the next ticks after `count`, in order.
abbrev pub KeepsUntouched : ℕ → Origins → List RowsView → List RowsView → Type 0
KeepsUntouched count [] before [] = Unit {0}
KeepsUntouched count [] before (rows ∷ after) = ⊥
KeepsUntouched count (origin ∷ origins) before [] = ⊥
KeepsUntouched count (Some line ∷ origins) before (rows ∷ after) =
    (slice_get before line ≡ Some rows) × KeepsUntouched count origins before after
KeepsUntouched count (None ∷ origins) before (rows ∷ after) =
    (rows.tick ≡ count + 1) × KeepsUntouched (count + 1) origins before after

-- Only the lines that a splice touched are wrapped, each once, and the count increases by their
-- number. Other lines keep their rows.
pub record WrapsTouchedOnce (old : TextAndLayout) (splices : List Splice) (new : TextAndLayout) : Type 0 where
  pub count : new.layout.count ≡ old.layout.count + touched_count (line_origins (length (lines old.text)) splices)
  pub rows : (before after : List RowsView) → HasLayout old before → HasLayout new after →
      KeepsUntouched old.layout.count (line_origins (length (lines old.text)) splices) before after

-- What splices that are made at once wrap: the lines that one of them touched, each once, or each
-- line once if they change the width of the map.
pub record WrapsAtOnce (old : TextAndLayout) (splices : List Splice) (new : TextAndLayout) : Type 0 where
  pub text : new.text ≡ applied_all old.text splices
  pub settings : new.layout.settings ≡ old.layout.settings
  pub same_width : map_width new ≡ map_width old → WrapsTouchedOnce old splices new
  pub other_width : map_width new ≢ map_width old → WrapsAllLines old new
