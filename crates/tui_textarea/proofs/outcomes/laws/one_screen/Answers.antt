use Rattle.tui_textarea.proofs.Runs.{one_screen}
use Rattle.tui_textarea.proofs.outcomes.laws.one_screen.Goals as goal

pub returns : goal.returns
returns c = one_screen c.one_move.ensures c.one_input.ensures c.one_rendering.ensures c.one_drawing.ensures
