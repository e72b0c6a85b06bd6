use Rattle.tui_textarea.proofs.OneAct.{one_act}
use Rattle.tui_textarea.proofs.laws.one_input.Goals as goal

pub returns : goal.returns
returns c = one_act c.one_move.ensures
