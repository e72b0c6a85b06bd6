use Rattle.std.proofs.Common.{None, Some}
use Rattle.tui_textarea.specs.CaretHit.{IsCursorAtCaret}
use Rattle.tui_textarea.specs.Drawing.{widget_of}
use Rattle.tui_textarea.specs.Hit.{IsHitTest}
use Rattle.textarea_c.proofs.Tried.{seen_in}
use Rattle.textarea_c.proofs.calls.screen.ta_cursor_at_position.Goals as goal

pub returns-clause-back : goal.returns-clause-back
returns-clause-back c = λ ok.
    let new = c.find_position-status.new in
    seen_in c.args.handle.now.stored.content (λ a. IsCursorAtCaret (widget_of a.area) c.args.x c.args.y (Some (new.row, new.column)))
    c.in-Some.editor.value c.deref.result.now c.in-Some.ensures.taken c.deref.ensures (c.find_position-status.ensures.back ok)

pub returns-clause-none : goal.returns-clause-none
returns-clause-none c = λ none.
    seen_in c.args.handle.now.stored.content
    (λ a. IsHitTest (widget_of a.area) c.args.x c.args.y None × IsCursorAtCaret (widget_of a.area) c.args.x c.args.y None)
    c.in-Some.editor.value c.deref.result.now c.in-Some.ensures.taken c.deref.ensures (c.find_position-status.ensures.none none)
