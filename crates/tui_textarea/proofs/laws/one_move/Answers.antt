use Rattle.std.proofs.Common.{Option, ap, sym, ◌∙◌}
use Rattle.textarea_text.specs.Place.{Place}
use Rattle.tui_textarea.specs.Moves.{after_move_by, bias_of, pushed}
use Rattle.tui_textarea.specs.Units.{settled}
use Rattle.tui_textarea.proofs.OneTarget.{one_target}
use Rattle.tui_textarea.proofs.laws.one_move.Goals as goal

pub returns : goal.returns
returns c = λ old first second shift cursor_move h k.
    let up_and_down = c.one_place_up_and_down.ensures in
    let found = one_target old cursor_move h.found k.found up_and_down.above up_and_down.below c.one_nearest_place.ensures h.target_is k.target_is in
    h.new_is ∙ ap (λ (target : Option Place). settled (bias_of cursor_move) (after_move_by old shift (pushed old.document.ranges cursor_move target))) found ∙ sym k.new_is
