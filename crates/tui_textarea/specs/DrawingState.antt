-- The styles and viewport of a text area, and what was drawn last.
use Rattle.std.specs.Prelude.{ℕ, List, [], Option, None}
use Rattle.textarea_view.specs.Look.{default_look}
use Rattle.textarea_view.specs.declared.look.CustomHighlight.{CustomHighlight}
use Rattle.textarea_view.specs.declared.look.Look.{Look}
use Rattle.textarea_view.specs.Viewport.{ViewportState, initial_viewport}

-- the look; the custom highlights, in the order in which they were added; the viewport; the corner
-- of the inner area of the last drawing, by column and row, and its height, while its width is in
-- the layout settings; and the column and row of the caret at the last drawing, if it was shown
pub record DrawingState : Type 0 where
  pub look : Look
  pub highlights : List CustomHighlight
  pub viewport : ViewportState
  pub corner : ℕ × ℕ
  pub height : ℕ
  pub caret : Option (ℕ × ℕ)

-- before anything is drawn: the default look, no highlight, and an area without a cell
abbrev pub new_drawing : DrawingState
new_drawing = record {
  look = default_look;
  highlights = [];
  viewport = initial_viewport;
  corner = (0, 0);
  height = 0;
  caret = None;
}

abbrev pub with_look : DrawingState → Look → DrawingState
with_look drawing look = record drawing { look = look }

abbrev pub with_viewport : DrawingState → ViewportState → DrawingState
with_viewport drawing viewport = record drawing { viewport = viewport }

-- for other lines: no highlight, and nothing scrolled; the look, the last area and the caret stay
abbrev pub for_other_lines : DrawingState → DrawingState
for_other_lines drawing = record drawing { highlights = []; viewport = initial_viewport }
