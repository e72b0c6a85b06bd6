use Rattle.tui_textarea.proofs.ChangesOverCalls.{TheLaws, call_follows, left_leads}
use Rattle.tui_textarea.proofs.outcomes.laws.changes_follow_each_call.Goals as goal

pub returns : goal.returns
returns c =
    let laws : TheLaws = record {
      edited = c.changes_lead.ensures.edited;
      undone = c.changes_lead.ensures.undone;
      redone = c.changes_lead.ensures.redone;
      lines = c.changes_lead.ensures.lines;
    } in
    record { made = call_follows laws; out_of_memory = left_leads laws }
