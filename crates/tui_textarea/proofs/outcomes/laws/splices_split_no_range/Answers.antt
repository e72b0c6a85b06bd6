use Rattle.tui_textarea.proofs.RangesOverCalls.{TheLaws, call_fits}
use Rattle.tui_textarea.proofs.outcomes.laws.splices_split_no_range.Goals as goal

pub returns : goal.returns
returns c =
    let laws : TheLaws = record { edited = c.ranges_follow_splices.ensures.edited; undone = c.ranges_follow_splices.ensures.undone; redone = c.ranges_follow_splices.ensures.redone } in
    record { fit = λ state call sound. (call_fits laws state call sound).0; split_none = λ state call sound. (call_fits laws state call sound).1 }
