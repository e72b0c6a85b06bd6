use Rattle.std.proofs.Common.{None, Some, refl}
use Rattle.tui_textarea.proofs.Lifted.{move_lifted}
use Rattle.tui_textarea.proofs.textarea.TextArea.move_to_target.Goals as goal

pub returns-in-Some : goal.returns-in-Some
returns-in-Some c = record {
  found = Some c.in-Some.place;
  target_is = c.in-Some.ensures.target;
  new_is =
      move_lifted c.self.view_is c.move_to.new.self c.args.shift c.args.cursor_move c.in-Some.place c.move_out-place.result c.ranges-in-Some.result.now
      c.bias_of.result c.anchor_with-anchor.result c.move_to.ensures c.move_out-place.ensures.value c.ranges-in-Some.ensures.value c.bias_of.ensures
      c.anchor_with-anchor.ensures.value;
}

pub returns-in_default : goal.returns-in_default
returns-in_default c = record { found = None; target_is = c.in_default.ensures.target; new_is = refl }
