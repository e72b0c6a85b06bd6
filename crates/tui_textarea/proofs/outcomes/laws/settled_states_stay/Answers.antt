use Rattle.tui_textarea.proofs.SettledCalls.{call_settled, left_settled}
use Rattle.tui_textarea.proofs.outcomes.laws.settled_states_stay.Goals as goal

pub returns : goal.returns
returns c = record { made = call_settled c.look_up_leads_back.ensures.place; out_of_memory = left_settled }
