use Rattle.tui_textarea.proofs.StaysSound.{call_stays_sound, out_of_memory_stays_sound}
use Rattle.tui_textarea.proofs.outcomes.laws.each_call_stays_sound.Goals as goal

pub returns : goal.returns
returns c = record { made = call_stays_sound c.look_up_leads_back.ensures.place; out_of_memory = out_of_memory_stays_sound }
