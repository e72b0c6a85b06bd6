use Rattle.tui_textarea.proofs.RangesOverRuns.{TheLaws, ranges_follow_run}
use Rattle.tui_textarea.proofs.outcomes.laws.ranges_follow_each_run.Goals as goal

pub returns : goal.returns
returns c =
    let laws : TheLaws = record {
      follow = c.ranges_follow_each_call.ensures.made;
      left = c.ranges_follow_each_call.ensures.out_of_memory;
      sound = c.each_call_stays_sound.ensures.made;
      covers = c.ranges_cover_no_more.ensures.made;
      covers_left = c.ranges_cover_no_more.ensures.out_of_memory;
    } in
    ranges_follow_run laws
