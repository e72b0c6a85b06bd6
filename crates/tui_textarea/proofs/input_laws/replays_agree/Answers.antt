use Rattle.tui_textarea.proofs.ActionTexts.{one_more, one_replay}
use Rattle.tui_textarea.proofs.input_laws.replays_agree.Goals as goal

pub returns : goal.returns
returns c = record { one = one_replay c.one_input.ensures; more = one_more }
