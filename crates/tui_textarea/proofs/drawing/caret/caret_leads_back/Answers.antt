use Rattle.std.proofs.Common.{subst, sym}
use Rattle.tui_textarea.specs.DrawingPrelude.{DocumentState, IsPlace, Place}
use Rattle.tui_textarea.proofs.drawing.caret.caret_leads_back.Goals as goal

pub returns : goal.returns
returns c = λ old new area same rendered.
    let place : IsPlace c.args.document.now.text c.args.document.now.cursor = subst (λ (p : Place). IsPlace c.args.document.now.text p) c.cursor.ensures.value c.cursor.ensures.place in
    c.caret_hit_is_cursor.ensures old new area rendered (subst (λ (d : DocumentState). IsPlace d.text d.cursor) (sym same) place)
