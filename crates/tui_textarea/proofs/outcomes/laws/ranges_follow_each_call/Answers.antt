use Rattle.tui_textarea.proofs.RangesOverCalls.{TheLaws, ranges_follow_call, out_of_memory_follows}
use Rattle.tui_textarea.proofs.outcomes.laws.ranges_follow_each_call.Goals as goal

pub returns : goal.returns
returns c =
    let laws : TheLaws = record { edited = c.ranges_follow_splices.ensures.edited; undone = c.ranges_follow_splices.ensures.undone; redone = c.ranges_follow_splices.ensures.redone } in
    record { made = ranges_follow_call laws; out_of_memory = out_of_memory_follows laws }
