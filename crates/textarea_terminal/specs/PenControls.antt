-- The controls that give a pen a look.
use Rattle.std.specs.Prelude.{List, [], ◌∷◌, if◌then◌else◌}
use Rattle.textarea_terminal.specs.Control.{Control}
use Rattle.textarea_terminal.specs.Control.Control.{SetPen, ChangePen}
use Rattle.textarea_terminal.specs.Pen.{renditions_of, before_background, fits_one_control}
use Rattle.textarea_terminal.specs.Pen.Rendition.{Background}
use Rattle.textarea_terminal.specs.declared.output.look.Pen.{Pen}

-- one, or a second one for the background if the first has no room
abbrev pub pen_controls : Pen → List Control
pen_controls look =
    if fits_one_control look then SetPen (renditions_of look) ∷ [] else SetPen (before_background look) ∷ ChangePen (Background look.bg) ∷ []
