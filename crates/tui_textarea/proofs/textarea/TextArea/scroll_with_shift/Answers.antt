use Rattle.tui_textarea.proofs.Lifted.{scroll_lifted}
use Rattle.tui_textarea.proofs.textarea.TextArea.scroll_with_shift.Goals as goal

pub returns : goal.returns
returns c = scroll_lifted c.self.view_is c.args.scrolling c.scroll.new.self c.args.shift c.move_with_shift.new.self c.scroll.ensures c.move_with_shift.ensures
