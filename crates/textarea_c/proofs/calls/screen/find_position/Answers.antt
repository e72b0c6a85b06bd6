use Rattle.std.proofs.Common.{ℕ, Option, subst}
use Rattle.tui_textarea.specs.CaretHit.{IsCursorAtCaret}
use Rattle.tui_textarea.specs.Drawing.{widget_of}
use Rattle.tui_textarea.specs.Hit.{IsHitTest}
use Rattle.textarea_c.proofs.calls.screen.find_position.Goals as goal

pub returns-in-Ok-clause-hit : goal.returns-in-Ok-clause-hit
returns-in-Ok-clause-hit c = λ ok.
    subst (λ (found : Option (ℕ × ℕ)). IsHitTest (widget_of c.args.editor.now.area) c.args.cell.x c.args.cell.y found) (c.write_place.ensures.place ok) c.in-Ok.ensures.hit

pub returns-in-Ok-clause-back : goal.returns-in-Ok-clause-back
returns-in-Ok-clause-back c = λ ok.
    subst (λ (found : Option (ℕ × ℕ)). IsCursorAtCaret (widget_of c.args.editor.now.area) c.args.cell.x c.args.cell.y found) (c.write_place.ensures.place ok) c.in-Ok.ensures.back

pub returns-in-Ok-clause-none : goal.returns-in-Ok-clause-none
returns-in-Ok-clause-none c = λ ok.
    let none = c.write_place.ensures.none ok in (
      subst (λ (found : Option (ℕ × ℕ)). IsHitTest (widget_of c.args.editor.now.area) c.args.cell.x c.args.cell.y found) none c.in-Ok.ensures.hit,
      subst (λ (found : Option (ℕ × ℕ)). IsCursorAtCaret (widget_of c.args.editor.now.area) c.args.cell.x c.args.cell.y found) none c.in-Ok.ensures.back,
    )
