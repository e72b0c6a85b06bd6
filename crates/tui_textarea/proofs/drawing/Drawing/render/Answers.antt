use Rattle.std.proofs.Common.{ap, refl, subst, ◌∙◌}
use Rattle.tui_textarea.specs.DrawingPrelude.{widget_state, with_inner_width, DocumentState, WidgetState, drawn_into, DrawingState, IsDrawnAt}
use Rattle.tui_textarea.proofs.Rendering.{IsStepped, drawn, rendered}
use Rattle.tui_textarea.proofs.drawing.Drawing.render.Goals as goal
use Rattle.tui_textarea.proofs.drawing.Drawing.render.Goals.{After-put}

abbrev before : After-put → WidgetState
before c = widget_state c.args.document.now c.args.search.now c.args.surround.now c.args.self.now

steps : (c : After-put) → IsStepped (before c) c.args.area c.inner_area-inner.result c.in_ok-prepared.prepared.inner_width c.args.buffer.now
    c.draw_at_width-drawn.new.buffer c.in_ok-placement.placement c.put_width.new.self c.put.new.self
steps c = record {
  inner_is = c.inner_area-inner.ensures.inner;
  width_is = c.in_ok-prepared.ensures.width ∙ c.width.ensures;
  drawn =
      subst (λ (d : DrawingState). IsDrawnAt (widget_state c.args.document.now c.args.search.now c.args.surround.now d)
      c.in_ok-prepared.prepared.inner_width c.args.area c.inner_area-inner.result c.args.buffer.now c.draw_at_width-drawn.new.buffer c.in_ok-placement.placement)
      c.take_matches-cached.ensures
      (subst (λ (d : DocumentState). IsDrawnAt (widget_state d c.args.search.now c.args.surround.now c.take_matches-cached.new.self)
      c.in_ok-prepared.prepared.inner_width c.args.area c.inner_area-inner.result c.args.buffer.now c.draw_at_width-drawn.new.buffer c.in_ok-placement.placement)
      c.prepare_width.ensures.same c.in_ok-placement.ensures.ok);
  document_is = c.put_width.ensures ∙ ap (λ (d : DocumentState). with_inner_width d c.in_ok-prepared.prepared.inner_width) c.prepare_width.ensures.same;
  drawing_is =
      c.put.ensures
      ∙ ap (λ (d : DrawingState). drawn_into d c.inner_area-inner.result c.in_ok-placement.placement) (c.put_matches.ensures ∙ c.take_matches-cached.ensures);
}

pub returns-clause-ok : goal.returns-clause-ok
returns-clause-ok c =
    let put = (goal.at.returns-clause-ok c).After-put in
    rendered (before put) c.args.area c.inner_area-inner.result c.in_ok-prepared.prepared.inner_width c.args.buffer.now
    c.draw_at_width-drawn.new.buffer c.in_ok-placement.placement c.put_width.new.self c.put.new.self (steps put)

pub returns-clause-cells : goal.returns-clause-cells
returns-clause-cells c =
    let put = (goal.at.returns-clause-cells c).After-put in
    drawn (before put) c.args.area c.inner_area-inner.result c.in_ok-prepared.prepared.inner_width c.args.buffer.now
    c.draw_at_width-drawn.new.buffer c.in_ok-placement.placement c.put_width.new.self c.put.new.self (steps put)

pub returns-clause-back : goal.returns-clause-back
returns-clause-back c =
    let put = (goal.at.returns-clause-back c).After-put in
    c.caret_leads_back.ensures _ _ c.args.area refl (rendered (before put) c.args.area c.inner_area-inner.result c.in_ok-prepared.prepared.inner_width c.args.buffer.now
    c.draw_at_width-drawn.new.buffer c.in_ok-placement.placement c.put_width.new.self c.put.new.self (steps put))

pub returns-clause-displayed : goal.returns-clause-displayed
returns-clause-displayed c =
    let put = (goal.at.returns-clause-displayed c).After-put in
    c.caret_has_room.ensures _ _ c.args.area refl (rendered (before put) c.args.area c.inner_area-inner.result c.in_ok-prepared.prepared.inner_width c.args.buffer.now
    c.draw_at_width-drawn.new.buffer c.in_ok-placement.placement c.put_width.new.self c.put.new.self (steps put))
