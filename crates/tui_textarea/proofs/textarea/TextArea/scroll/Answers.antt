use Rattle.std.proofs.Common.{Bool, subst}
use Rattle.tui_textarea.specs.Moves.{IsScrolledWith}
use Rattle.tui_textarea.proofs.textarea.TextArea.scroll.Goals as goal

pub returns : goal.returns
returns c = subst (λ (b : Bool). IsScrolledWith c.args.self.now b c.args.scrolling c.scroll_with_shift.new.self) c.is_selecting.ensures c.scroll_with_shift.ensures
