use Rattle.tui_textarea.proofs.Runs.{one_end}
use Rattle.tui_textarea.proofs.outcomes.laws.one_end.Goals as goal

pub returns : goal.returns
returns c = one_end c.one_move.ensures c.one_input.ensures c.one_rendering.ensures
