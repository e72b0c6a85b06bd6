use Rattle.std.proofs.Common.{subst}
use Rattle.std.specs.Result.{IfOk}
use Rattle.tui_textarea.specs.CaretHit.{IsCursorAtCaret}
use Rattle.tui_textarea.specs.Hit.{IsHitTest}
use Rattle.tui_textarea.specs.Drawing.{widget_of}
use Rattle.tui_textarea.specs.State.{State}
use Rattle.tui_textarea.proofs.textarea.TextArea.cursor_at_position.Goals as goal

pub returns-clause-hit : goal.returns-clause-hit
returns-clause-hit c = subst (λ (s : State). IfOk c.hit.result (IsHitTest (widget_of s) c.args.position.x c.args.position.y)) c.self.view_is c.hit.ensures.hit

pub returns-clause-back : goal.returns-clause-back
returns-clause-back c = subst (λ (s : State). IfOk c.hit.result (IsCursorAtCaret (widget_of s) c.args.position.x c.args.position.y)) c.self.view_is c.hit.ensures.back
