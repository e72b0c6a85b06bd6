use Rattle.tui_textarea.proofs.ActionTexts.{symbols_pass}
use Rattle.tui_textarea.proofs.RangesOverCalls.{TheLaws}
use Rattle.tui_textarea.proofs.input_laws.symbols_stay_or_are_inserted.Goals as goal

pub returns : goal.returns
returns c =
    let laws : TheLaws = record { edited = c.ranges_follow_splices.ensures.edited; undone = c.ranges_follow_splices.ensures.undone; redone = c.ranges_follow_splices.ensures.redone } in
    symbols_pass laws
