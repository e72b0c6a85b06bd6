-- What a password field shows.
use Rattle.std.specs.Prelude.{ℕ, List, [], ◌∷◌, replicate}
use Rattle.textarea_data.specs.declared.range.AtomicCursorBias.TheVariants.{Forward}
use Rattle.textarea_screen.specs.declared.screen.buffer.Buffer.{Buffer}
use Rattle.textarea_screen.specs.declared.screen.rect.Rect.{Rect}
use Rattle.textarea_text.specs.Place.{Place, line_of}
use Rattle.textarea_text.specs.Text.{joined, lines}
use Rattle.tui_textarea.specs.Drawing.{IsRendered, widget_of}
use Rattle.tui_textarea.specs.Moves.{gone_to}
use Rattle.tui_textarea.specs.Rendered.{IsDrawn}
use Rattle.tui_textarea.specs.Run.{ShowsSame}
use Rattle.tui_textarea.specs.State.{State, new_state}
use Rattle.tui_textarea.specs.Units.{settled}

-- the password: the first line
abbrev pub secret : State → List ℕ
secret state = line_of (lines state.document.text) 0

-- the code of •
abbrev pub bullet : ℕ
bullet = 8226

-- a new text area with this number of bullets, and the cursor at this position or the nearest one
abbrev pub masked : ℕ → Place → State
masked count cursor = settled Forward (gone_to (new_state (joined (replicate count bullet ∷ []))) cursor)

-- the cells are those of such a text area, drawn into the area
pub record ShowsBullets (count : ℕ) (cursor : Place) (area : Rect) (old new : Buffer) : Type 0 where
  pub shown : State
  pub rendered : IsRendered (masked count cursor) area shown
  pub cells : IsDrawn (widget_of shown) area old new

-- drawings of two passwords of equally many characters, with the cursor at the same position, into
-- one area of equal screens give equal screens
abbrev pub LookAlike : Type 0
LookAlike = (count : ℕ) (cursor : Place) (area : Rect) (old one other : Buffer) → ShowsBullets count cursor area old one → ShowsBullets count cursor area old other → ShowsSame one other
