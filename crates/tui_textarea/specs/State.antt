-- The state of a text area.
use Rattle.std.specs.Prelude.{ℕ, List, [], false, map, Option, None}
use Rattle.std.specs.Borrow.{Bor}
use Rattle.std.specs.Str.{chars}
use Rattle.textarea_text.specs.Text.{Symbol, joined}
use Rattle.textarea_change.specs.declared.change.ChangeUnit.{ChangeUnit}
use Rattle.textarea_data.specs.declared.cursor.CursorUnit.TheVariants.{Character}
use Rattle.textarea_document.specs.Changes.{no_changes}
use Rattle.textarea_document.specs.DocumentState.{DocumentState, changes_taken, new_document}
use Rattle.textarea_wrap.specs.declared.wrap.WrapMode.TheVariants as mode
use Rattle.textarea_lines.specs.declared.settings.LayoutSettings.{LayoutSettings}
use Rattle.textarea_view.specs.SurroundState.{SurroundState, new_surround}
use Rattle.tui_textarea.specs.DrawingState.{DrawingState, for_other_lines, new_drawing}
use Rattle.tui_textarea.specs.declared.textarea.settings.Settings.{Settings}

-- a text area as its callers see it: the document; the yanked text; the settings; the time that was
-- set last, in nanoseconds; the search pattern, by its bytes, if there is one; the surround around
-- the rows; and the styles, the viewport and what was drawn last
pub record State : Type 0 where
  pub document : DocumentState
  pub yank : List Symbol
  pub settings : Settings
  pub time : ℕ
  pub pattern : Option (List ℕ)
  pub surround : SurroundState
  pub drawing : DrawingState

-- the initial settings: tabs as spaces, typed edits do not join, no edits are grouped, the text can
-- be edited, and have several lines, and the cursor goes by characters
abbrev pub default_settings : Settings
default_settings = record { hard_tab_indent = false; undo_coalescing = false; undo_grouping = false; read_only = false; single_line = false; max_chars = None; cursor_unit = Character }

-- the initial layout: one visual row per line, tab stops at each fourth column, no line numbers, no
-- area drawn yet
abbrev pub default_layout : LayoutSettings
default_layout = record { mode = mode.None; tab_len = 4; line_numbers = false; inner_width = 0 }

-- a new text area: the cursor at the start, nothing selected, at most 50 edits remembered and none
-- yet, nothing yanked, no pattern, no block and no placeholder, the initial look, and nothing drawn
abbrev pub new_state : List Symbol → State
new_state text = record { document = new_document text default_layout 50; yank = []; settings = default_settings; time = 0; pattern = None; surround = new_surround; drawing = new_drawing }

abbrev pub with_document : State → DocumentState → State
with_document state document = record state { document = document }

-- the log of changes is emptied
abbrev pub with_changes_taken : State → State
with_changes_taken state = with_document state (changes_taken state.document)

-- a log of changes begins in this unit, or ends for none
abbrev pub with_change_log : State → Option ChangeUnit → State
with_change_log state unit = with_document state (record state.document { changes = no_changes unit })

-- other lines replace the old ones: no custom highlight stays, nothing is scrolled; all else stays
abbrev pub with_other_lines : State → DocumentState → State
with_other_lines state document = record state { document = document; drawing = for_other_lines state.drawing }

-- the characters of a borrowed text
abbrev pub borrowed_characters : Bor (List ℕ) → List ℕ
borrowed_characters text = chars text.now

-- the text with each of these as a line
abbrev pub text_of_each : List (Bor (List ℕ)) → List Symbol
text_of_each texts = joined (map borrowed_characters texts)
