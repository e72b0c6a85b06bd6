use Rattle.std.proofs.Common.{ap, refl, subst}
use Rattle.tui_textarea.specs.DrawingPrelude.{IfOk, widget_state, frame_of, FrameState, IsHitTest, IsHitOf, DrawingState, ViewportState}
use Rattle.textarea_view.proofs.Layers.{if_ok}
use Rattle.tui_textarea.proofs.drawing.Drawing.hit.Goals as goal
use Rattle.tui_textarea.proofs.drawing.Drawing.hit.Goals.{After-hit}

found : (c : After-hit) → IfOk c.hit.result (IsHitTest (widget_state c.args.document.now c.args.search.now c.args.surround.now c.args.self.now) c.args.position.x c.args.position.y)
found c =
    let widget = widget_state c.args.document.now c.args.search.now c.args.surround.now c.args.self.now in
    if_ok c.hit.result c.hit.ensures.hit (λ found h. record {
      inner = c.last_area-inner.result;
      inner_is = c.last_area-inner.ensures;
      rows = c.view.result;
      rows_are = c.view.ensures;
      found_is = subst (λ (v : ViewportState). IsHitOf (frame_of widget c.view.result) v c.last_area-inner.result c.args.position.x c.args.position.y found) (ap (λ (d : DrawingState). d.viewport) c.self.view_is)
          (subst (λ (f : FrameState). IsHitOf f c.self.inside.viewport c.last_area-inner.result c.args.position.x c.args.position.y found) c.frame-frame.ensures.frame h);
    })

pub returns-clause-hit : goal.returns-clause-hit
returns-clause-hit c = found (goal.at.returns-clause-hit c).After-hit

pub returns-clause-back : goal.returns-clause-back
returns-clause-back c =
    let widget = widget_state c.args.document.now c.args.search.now c.args.surround.now c.args.self.now in
    if_ok c.hit.result (found (goal.at.returns-clause-back c).After-hit) (λ place h. λ old area rendered caret wide.
    c.caret_leads_back.ensures old widget area refl rendered c.args.position.x c.args.position.y place caret wide h)
