use Rattle.std.proofs.Common.{arith}
use Rattle.textarea_editor.proofs.editor.Editor.screen_area.Goals as goal

pub returns : goal.returns
returns c = record {
  column = c.new.ensures.x;
  row = c.new.ensures.y;
  width = omega (arith, c.new.ensures.width);
  height = omega (arith, c.new.ensures.height);
}
