use Rattle.std.proofs.Common.{◌≡◌, ◌∙◌, ◌-◌, Option, Some, IfSome, ap, refl, subst, sym}
use Rattle.textarea_data.specs.declared.range.AtomicCursorBias.TheVariants.{Backward}
use Rattle.textarea_document.specs.Edits.{HasEffect, Remove}
use Rattle.textarea_document.specs.Sound.{IsSound}
use Rattle.textarea_text.specs.Place.{Place}
use Rattle.tui_textarea.specs.State.{State}
use Rattle.tui_textarea.specs.Units.{before_cursor, if_elsewhere, stop_of}
use Rattle.tui_textarea.proofs.WholeRemovals.{back_made, else_elsewhere, same_elsewhere}
use Rattle.tui_textarea.proofs.textarea.TextArea.stop_before.Goals as goal
use Rattle.tui_textarea.proofs.textarea.TextArea.stop_before.Goals.{After-stop_of-start}

-- the position before the cursor
before_is : (c : After-stop_of-start) → (c.cursor-row.result.0, c.saturating_sub-before.result) ≡ before_cursor c.args.self.now.document
before_is c =
    ap (λ n. (c.cursor-row.result.0, n)) c.saturating_sub-before.ensures
    ∙ ap (λ (p : Place). (p.0, p.1 - 1)) (c.cursor-row.ensures.value ∙ ap (λ (s : State). s.document.cursor) c.self.view_is)

stop_is : (c : After-stop_of-start) → c.stop_of-start.result ≡ stop_of Backward c.args.self.now.document (before_cursor c.args.self.now.document)
stop_is c = c.stop_of-start.ensures.value ∙ ap (stop_of Backward c.args.self.now.document) (before_is c)

pub returns-then-start-before-clause-value : goal.returns-then-start-before-clause-value
returns-then-start-before-clause-value c =
    let at = (goal.at.returns-then-start-before-clause-value c).After-stop_of-start in
    let document = c.args.self.now.document in
    same_elsewhere (before_cursor document) (stop_of Backward document (before_cursor document)) c.stop_of-start.result (stop_is at)
    (c.if-start-before.true ∙ ap (λ (p : Place). p.1) (before_is at))

pub returns-clause-value : goal.returns-clause-value
returns-clause-value c =
    let at = (goal.at.returns-clause-value c).After-stop_of-start in
    let document = c.args.self.now.document in
    else_elsewhere (before_cursor document) (stop_of Backward document (before_cursor document)) c.stop_of-start.result (stop_is at)
    (λ e. c.if-start-before.false (e ∙ sym (ap (λ (p : Place). p.1) (before_is at))))

-- the removal from there to the cursor has something to remove
made : (c : After-stop_of-start) → Some c.stop_of-start.result ≡ if_elsewhere (before_cursor c.args.self.now.document) (stop_of Backward c.args.self.now.document (before_cursor c.args.self.now.document))
    → HasEffect c.args.self.now.document (Remove c.stop_of-start.result c.args.self.now.document.cursor)
made c is =
    let document = c.args.self.now.document in
    subst (λ (o : Option Place). IfSome o (λ start. HasEffect document (Remove start document.cursor))) (sym is)
    (back_made document (stop_of Backward document (before_cursor document)) (subst (λ (s : State). IsSound s.document) c.self.view_is c.is_sound.ensures) refl)

pub returns-clause-before : goal.returns-clause-before
returns-clause-before c = (made (goal.at.returns-clause-before c).After-stop_of-start (returns-clause-value c)).2
