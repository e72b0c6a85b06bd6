use Rattle.tui_textarea.proofs.ChangesOverRuns.{TheLaws, changes_follow_run}
use Rattle.tui_textarea.proofs.outcomes.laws.changes_follow_each_run.Goals as goal

pub returns : goal.returns
returns c =
    let laws : TheLaws = record {
      follow = c.changes_follow_each_call.ensures.made;
      left = c.changes_follow_each_call.ensures.out_of_memory;
      sound = c.each_call_stays_sound.ensures.made;
    } in
    changes_follow_run laws
