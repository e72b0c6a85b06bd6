use Rattle.tui_textarea.proofs.SettledRuns.{TheLaws, run_settles}
use Rattle.tui_textarea.proofs.outcomes.laws.settled_runs_stay.Goals as goal

pub returns : goal.returns
returns c =
    let laws : TheLaws = record {
      settled = c.settled_states_stay.ensures.made;
      left = c.settled_states_stay.ensures.out_of_memory;
      sound = c.each_call_stays_sound.ensures.made;
    } in
    run_settles laws
