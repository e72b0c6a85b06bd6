-- The states after the calls that set the layout.
use Rattle.std.specs.Prelude.{ℕ, Bool, true, false, List, [], ◌∷◌, replicate, Option, Some, None, if◌then◌else◌}
use Rattle.textarea_screen.specs.declared.screen.alignment.Alignment.{Alignment}
use Rattle.textarea_screen.specs.declared.screen.alignment.Alignment.TheVariants.{Left, Center, Right}
use Rattle.textarea_screen.specs.declared.screen.style.Style.{Style}
use Rattle.textarea_wrap.specs.declared.wrap.WrapMode.{WrapMode}
use Rattle.textarea_lines.specs.declared.settings.LayoutSettings.{LayoutSettings}
use Rattle.textarea_document.specs.DocumentState.{DocumentState}
use Rattle.textarea_lines.specs.TextLayout as layout
use Rattle.textarea_document.specs.DocumentRows.{text_and_layout, with_layout_settings}
use Rattle.tui_textarea.specs.Drawing.{with_look_set}
use Rattle.tui_textarea.specs.State.{State, with_document}

-- the distance of tab stops, in columns
abbrev pub tab_length : DocumentState → ℕ
tab_length document = document.layout.settings.tab_len

-- the layout settings change, and all lines are wrapped again if that changes the layout
abbrev pub with_layout : State → LayoutSettings → State
with_layout state settings = with_document state (with_layout_settings state.document settings)

-- whether these settings keep the layout
abbrev pub keeps_layout : State → LayoutSettings → Bool
keeps_layout state settings = layout.keeps_wrapping (text_and_layout state.document) settings

-- the settings of the layout, one of them changed
abbrev pub mode_set : State → WrapMode → LayoutSettings
mode_set state mode = record state.document.layout.settings { mode = mode }

abbrev pub tab_length_set : State → ℕ → LayoutSettings
tab_length_set state columns = record state.document.layout.settings { tab_len = columns }

abbrev pub line_numbers_set : State → Bool → LayoutSettings
line_numbers_set state displayed = record state.document.layout.settings { line_numbers = displayed }

abbrev pub with_wrap_mode : State → WrapMode → State
with_wrap_mode state mode = with_layout state (mode_set state mode)

abbrev pub with_tab_length : State → ℕ → State
with_tab_length state columns = with_layout state (tab_length_set state columns)

-- line numbers are shown, in this style
abbrev pub with_line_numbers : State → Style → State
with_line_numbers state style =
    with_look_set (with_layout state (line_numbers_set state true))
    (record state.drawing.look { line_number_style = style })

abbrev pub without_line_numbers : State → State
without_line_numbers state = with_layout state (line_numbers_set state false)

-- the style of the line numbers, if they are shown
abbrev pub number_style : State → Option Style
number_style state = if state.document.layout.settings.line_numbers then Some state.drawing.look.line_number_style else None

-- the layout settings for this alignment: in the middle and at the right there are no line numbers
abbrev pub alignment_set : State → Alignment → LayoutSettings
alignment_set state Left = state.document.layout.settings
alignment_set state Center = line_numbers_set state false
alignment_set state Right = line_numbers_set state false

abbrev pub with_alignment : State → Alignment → State
with_alignment state alignment =
    with_look_set (with_layout state (alignment_set state alignment))
    (record state.drawing.look { alignment = alignment })

-- the bytes of a tab at a line's start: a tab character with hard tabs, otherwise a space for each
-- column of the tab length
abbrev pub indent_of : State → List ℕ
indent_of state = if state.settings.hard_tab_indent then 9 ∷ [] else replicate (tab_length state.document) 32
