use Rattle.tui_textarea.proofs.Covering.{TheLaws, call_covers, left_covers}
use Rattle.tui_textarea.proofs.outcomes.laws.ranges_cover_no_more.Goals as goal

pub returns : goal.returns
returns c =
    let document = c.ranges_cover_no_more.ensures in
    let laws : TheLaws = record { edited = document.edited; undone = document.undone; redone = document.redone } in
    record { made = call_covers laws; out_of_memory = left_covers laws }
