-- The data that a frame is drawn from.
use Rattle.std.specs.Prelude.{ℕ, Bool, true, false, ◌&&◌, List, [], ◌∷◌, length}
use Rattle.textarea_view.specs.Scene.{SceneState}
use Rattle.textarea_screen.specs.Text.{LineView}
use Rattle.textarea_view.specs.SurroundState.{SurroundState}
use Rattle.textarea_wrap.specs.Metrics.{line_number_columns}
use Rattle.textarea_wrap.specs.declared.wrap.WrapMode.{WrapMode}

-- the scene of the rows, the block and placeholder, the wrap mode, and whether the text is empty
pub record FrameState : Type 0 where
  pub scene : SceneState
  pub surround : SurroundState
  pub mode : WrapMode
  pub is_empty : Bool

abbrev pub has_lines : List LineView → Bool
has_lines [] = false
has_lines (line ∷ lines) = true

-- whether the placeholder is drawn instead of the rows: the text is empty, and it has lines
abbrev pub shows_placeholder : FrameState → Bool
shows_placeholder frame = frame.is_empty && has_lines frame.surround.placeholder.lines

-- the number of columns that line numbers take, 0 without them
abbrev pub number_width : SceneState → ℕ
number_width scene = line_number_columns scene.line_numbers (length scene.rows.lines)
