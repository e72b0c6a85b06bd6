-- The data that visual rows are drawn from.
use Rattle.std.specs.Prelude.{ℕ, Bool, List, Option, IfSome}
use Rattle.textarea_text.specs.Place.{Place, IsPlaceOf}
use Rattle.textarea_screen_map.specs.VisualPositions.{IsVisualPosition}
use Rattle.textarea_screen_map.specs.BorrowedLines.{BorrowedRows}
use Rattle.textarea_view.specs.declared.look.CustomHighlight.{CustomHighlight}
use Rattle.textarea_view.specs.declared.look.Look.{Look}

-- the lines with their visual rows; the cursor; the selection, if there is one, from its start to
-- its end; the pattern whose matches are highlighted, if there is one; the appearance; the caller's
-- own highlights, in the order in which they were added; and whether lines are numbered
pub record SceneState : Type 0 where
  pub rows : BorrowedRows
  pub cursor : Place
  pub selection : Option (Place × Place)
  pub pattern : Option (List ℕ)
  pub look : Look
  pub highlights : List CustomHighlight
  pub line_numbers : Bool

-- the cursor is a position in the lines, and so are both ends of the selection
pub record HasPlaces (scene : SceneState) : Type 0 where
  pub cursor : IsPlaceOf scene.rows.lines scene.cursor
  pub selection : IfSome scene.selection
      (λ selection. IsPlaceOf scene.rows.lines selection.0 × IsPlaceOf scene.rows.lines selection.1)

-- the cursor is in this visual row
abbrev pub IsCursorRow : SceneState → ℕ → Type 0
IsCursorRow scene row = (column : ℕ)
    × IsVisualPosition scene.rows.wrapping.tab_len scene.rows.lines scene.rows.rows scene.cursor (record { row = row; column = column })
