-- What contracts see of lines with their rows, and how a change of the text changes it.
use Rattle.std.specs.Prelude.{ℕ, ◌+◌, ◌-◌, Bool, List, String, Option, None, length, option_map, replicate, Vec, vec_len, if◌then◌else◌}
use Rattle.std.specs.declared.alloc.Global.{Global}
use Rattle.textarea_text.specs.Text.{Symbol, joined, lines, lines_of}
use Rattle.textarea_util.specs.Replaced.{replaced}
use Rattle.textarea_text.specs.Splice.{Splice, applied}
use Rattle.textarea_text.specs.Touched.{new_line_count, replaced_line_count}
use Rattle.textarea_text.specs.declared.rows.Replacement.{Replacement}
use Rattle.textarea_wrap.specs.RowsView.{RowsView}
use Rattle.textarea_screen_map.specs.LineRows.{ticks_after, ticks_of}
use Rattle.textarea_screen_map.specs.declared.layout.Wrapping.{Wrapping}
use Rattle.textarea_lines.specs.declared.settings.LayoutSettings.{LayoutSettings}
use Rattle.textarea_lines.specs.Wrappings.{wrapped_at_width, is_same_wrapping, wrapping_for}

-- Where lines come from: for each the number, from 0, of the line that it was when lines were
-- numbered, or `None` if a splice touched it since.
abbrev pub Origins : Type 0
Origins = List (Option ℕ)

-- The settings, the number of lines wrapped so far, and for each line the counter's number after
-- the call that wrapped it; if lines are numbered, also where they come from. The rows are not
-- included: they are right for the current text.
pub record Layout : Type 0 where
  pub settings : LayoutSettings
  pub count : ℕ
  pub ticks : List ℕ
  pub origins : Option Origins

-- where the lines of a text come from, as it stores that
abbrev pub origins_of : {A : Type 0} → Option (Vec (Option ℕ) A) → Option Origins
origins_of {A} origins = option_map (λ (v : Vec (Option ℕ) A). v.items) origins

-- the layout of a text with these rows
abbrev pub layout_of : LayoutSettings → ℕ → List RowsView → Option Origins → Layout
layout_of settings count rows origins = record { settings = settings; count = count; ticks = ticks_of rows; origins = origins }

pub record TextAndLayout : Type 0 where
  pub text : List Symbol
  pub layout : Layout

-- the text with another account of where its lines come from
abbrev pub with_origins : TextAndLayout → Option Origins → TextAndLayout
with_origins text_layout origins = record { text = text_layout.text; layout = record text_layout.layout { origins = origins } }

-- all `line_count` lines are wrapped, from the first on, and not numbered
abbrev pub all_wrapped : LayoutSettings → ℕ → ℕ → Layout
all_wrapped settings count line_count = record { settings = settings; count = count + line_count; ticks = ticks_after count line_count; origins = None }

-- `coming` lines are wrapped and replace those from the row on; all others keep their rows
abbrev pub some_wrapped : Layout → ℕ → ℕ → ℕ → Layout
some_wrapped layout row removed_lines coming = record {
  settings = layout.settings;
  count = layout.count + coming;
  ticks = replaced layout.ticks row removed_lines (ticks_after layout.count coming);
  origins = layout.origins;
}

-- Some lines are replaced: only these are wrapped, or all lines if the wrapping changes. What the
-- layout tells of where lines come from doesn't change.
abbrev pub after_replacement : Layout → ℕ → ℕ → ℕ → ℕ → Layout
after_replacement layout line_count row removed_lines coming =
    let after : ℕ = line_count - removed_lines + coming in
    if is_same_wrapping (wrapping_for layout.settings after) (wrapping_for layout.settings line_count) then some_wrapped layout row removed_lines coming else (record (all_wrapped layout.settings layout.count after) { origins = layout.origins })

-- where lines come from, after some are replaced by `coming` lines
abbrev pub origins_replaced : Origins → ℕ → ℕ → ℕ → Origins
origins_replaced origins row removed_lines coming = replaced origins row removed_lines (replicate coming None)

-- where lines come from, after a splice
abbrev pub origins_spliced : Origins → Splice → Origins
origins_spliced origins splice = origins_replaced origins splice.place.0 (replaced_line_count splice) (new_line_count splice)

-- the layout of a text of `line_count` lines after a splice, but for where lines come from
abbrev pub after_lines_spliced : Layout → ℕ → Splice → Layout
after_lines_spliced layout line_count splice = after_replacement layout line_count splice.place.0 (replaced_line_count splice) (new_line_count splice)

-- the layout of a text of `line_count` lines after a splice
abbrev pub after_splice : Layout → ℕ → Splice → Layout
after_splice layout line_count splice =
    record (after_lines_spliced layout line_count splice) { origins = option_map (λ (origins : Origins). origins_spliced origins splice) layout.origins }

-- the text and its layout after a splice, but for where lines come from
abbrev pub lines_spliced : TextAndLayout → Splice → TextAndLayout
lines_spliced text_layout splice = record { text = applied text_layout.text splice; layout = after_lines_spliced text_layout.layout (length (lines text_layout.text)) splice }

-- the text and its layout after a splice
abbrev pub applied_to : TextAndLayout → Splice → TextAndLayout
applied_to text_layout splice = record { text = applied text_layout.text splice; layout = after_splice text_layout.layout (length (lines text_layout.text)) splice }

-- the text and its layout after some lines are replaced
abbrev pub replaced_in : TextAndLayout → ℕ → ℕ → List (List ℕ) → TextAndLayout
replaced_in text_layout row removed_lines coming = record {
  text = joined (replaced (lines text_layout.text) row removed_lines coming);
  layout = after_replacement text_layout.layout (length (lines text_layout.text)) row removed_lines (length coming);
}

-- the same for a prepared replacement
abbrev pub with_replacement : TextAndLayout → Replacement → TextAndLayout
with_replacement text_layout replacement = replaced_in text_layout replacement.row replacement.count (lines_of replacement.lines.items)

-- the lines after a replacement, and their number
abbrev pub lines_after : List (String Global) → Replacement → List (List ℕ)
lines_after lines replacement = lines_of (replaced lines replacement.row replacement.count replacement.lines.items)

abbrev pub count_after : ℕ → Replacement → ℕ
count_after line_count replacement = line_count - replacement.count + vec_len replacement.lines

-- a text whose lines are all wrapped from scratch, when the counter's number before is `count`
abbrev pub layout_from_scratch : LayoutSettings → ℕ → List Symbol → TextAndLayout
layout_from_scratch settings count text = record { text = text; layout = all_wrapped settings count (length (lines text)) }

-- how the text is wrapped
abbrev pub wrapping_of : TextAndLayout → Wrapping
wrapping_of text_layout = wrapping_for text_layout.layout.settings (length (lines text_layout.text))

-- how the text is wrapped in an inner area of this many columns
abbrev pub wrapping_at : TextAndLayout → ℕ → Wrapping
wrapping_at text_layout inner_width = wrapped_at_width text_layout.layout.settings inner_width (length (lines text_layout.text))

-- whether the settings leave how the text is wrapped
abbrev pub keeps_wrapping : TextAndLayout → LayoutSettings → Bool
keeps_wrapping text_layout settings = is_same_wrapping (wrapping_for settings (length (lines text_layout.text))) (wrapping_of text_layout)

-- whether the text is already wrapped as in an inner area of this many columns
abbrev pub is_wrapped_at : TextAndLayout → ℕ → Bool
is_wrapped_at text_layout inner_width = is_same_wrapping (wrapping_at text_layout inner_width) (wrapping_of text_layout)

-- the settings with an inner area of this many columns
abbrev pub at_width : TextAndLayout → ℕ → LayoutSettings
at_width text_layout inner_width = record {
  mode = text_layout.layout.settings.mode;
  tab_len = text_layout.layout.settings.tab_len;
  line_numbers = text_layout.layout.settings.line_numbers;
  inner_width = inner_width;
}

-- all lines are wrapped again, by these settings
abbrev pub rewrapped : TextAndLayout → LayoutSettings → TextAndLayout
rewrapped text_layout settings = record {
  text = text_layout.text;
  layout = record (all_wrapped settings text_layout.layout.count (length (lines text_layout.text))) { origins = text_layout.layout.origins };
}

-- the text with other settings; all lines are wrapped again if these wrap them in another way
abbrev pub with_settings : TextAndLayout → LayoutSettings → TextAndLayout
with_settings text_layout settings =
    if keeps_wrapping text_layout settings then
    (record { text = text_layout.text; layout = record text_layout.layout { settings = settings } })
    else rewrapped text_layout settings
