-- What is behind a handle at first.
use Rattle.std.specs.Prelude.{ℕ, ◌≡◌, List, [], string_bytes, Option, MatchOption}
use Rattle.std.specs.Str.{chars}
use Rattle.textarea_screen.specs.Buffer.{area_of}
use Rattle.textarea_text.specs.Fragment.{fragment_symbols, without_last_break}
use Rattle.tui_textarea.specs.State.{State, new_state}
use Rattle.textarea_c.specs.Made.{MakesBehind}
use Rattle.textarea_c.specs.declared.editor.Editor.{Editor}

-- this text area, with a screen that has no cells, nothing rejected, and no changes taken
pub record IsEditorOf (area : State) (editor : Editor) : Type 0 where
  pub area_is : editor.area ≡ area
  pub no_columns : (area_of editor.screen).width ≡ 0
  pub no_rows : (area_of editor.screen).height ≡ 0
  pub ranges_are : editor.rejected.items ≡ []
  pub error_is : string_bytes editor.pattern_error ≡ []
  pub changes_are : editor.changes.items ≡ []

-- a new text area with the text of a file
abbrev pub state_of_file : List ℕ → State
state_of_file text = new_state (without_last_break (fragment_symbols (chars text)))

-- an editor with this text is made behind the handle
abbrev pub Loads : Option (List ℕ) → Option Editor → ℕ → Option Editor → Type 0
Loads text before status after =
    MatchOption text ((status ≡ 6) × (after ≡ before)) (λ t. MakesBehind (IsEditorOf (state_of_file t)) before status after)
