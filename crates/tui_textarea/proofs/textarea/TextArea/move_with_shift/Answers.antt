use Rattle.std.proofs.Common.{◌∙◌, ap₂}
use Rattle.tui_textarea.specs.Units.{settled}
use Rattle.tui_textarea.proofs.textarea.TextArea.move_with_shift.Goals as goal

pub returns : goal.returns
returns c = record {
  found = c.move_to_target.ensures.found;
  target_is = c.move_to_target.ensures.target_is;
  new_is = c.settle.ensures.new ∙ ap₂ settled c.bias_of.ensures c.move_to_target.ensures.new_is;
}
