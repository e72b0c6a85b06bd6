-- A text of one line that is typed from its start.
use Rattle.std.specs.Prelude.{◌≡◌, ◌+◌, ◌++◌, ℕ, List, [], ◌∷◌, Option, false, length, None, if◌then◌else◌}
use Rattle.textarea_data.specs.declared.cursor.CursorUnit.TheVariants.{Character}
use Rattle.textarea_text.specs.Text.{characters}
use Rattle.tui_textarea.specs.Fitting.{is_allowed}
use Rattle.tui_textarea.specs.State.{State}

-- the text has exactly these characters, in one line, and the cursor is after them; nothing is
-- selected, there are no atomic ranges, the text can be edited, the cursor goes by characters, and the
-- text may have at most so many characters, or any number
pub record IsTypedLine (state : State) (maximum : Option ℕ) (typed : List ℕ) : Type 0 where
  pub text : state.document.text ≡ characters typed
  pub cursor : state.document.cursor ≡ (0, length typed)
  pub anchor : state.document.anchor ≡ None
  pub ranges : state.document.ranges ≡ []
  pub editable : state.settings.read_only ≡ false
  pub by_characters : state.settings.cursor_unit ≡ Character
  pub most : state.settings.max_chars ≡ maximum

-- the line after one more character is typed: that is left out if it would be one too many
abbrev pub with_character : Option ℕ → List ℕ → ℕ → List ℕ
with_character maximum line c = if is_allowed maximum (length line + 1) then line ++ c ∷ [] else line
