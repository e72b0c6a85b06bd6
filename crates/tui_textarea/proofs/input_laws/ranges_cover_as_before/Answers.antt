use Rattle.tui_textarea.proofs.Covering.{TheLaws, action_covers}
use Rattle.tui_textarea.proofs.input_laws.ranges_cover_as_before.Goals as goal

pub returns : goal.returns
returns c =
    let document = c.ranges_cover_no_more.ensures in
    let laws : TheLaws = record { edited = document.edited; undone = document.undone; redone = document.redone } in
    action_covers laws
