use Rattle.std.proofs.Common.{Bool, subst}
use Rattle.tui_textarea.specs.Moves.{IsMovedWith}
use Rattle.tui_textarea.proofs.textarea.TextArea.move_cursor.Goals as goal

pub returns : goal.returns
returns c = subst (λ (b : Bool). IsMovedWith c.args.self.now b c.args.cursor_move c.move_with_shift.new.self) c.is_selecting.ensures c.move_with_shift.ensures
