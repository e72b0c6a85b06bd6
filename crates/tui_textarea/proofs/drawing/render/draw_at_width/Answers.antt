use Rattle.std.proofs.Common.{ap, subst}
use Rattle.tui_textarea.specs.DrawingPrelude.{widget_state, WidgetState, frame_of, FrameState, DrawingState, IsFrameDrawn, ViewportState}
use Rattle.textarea_view.proofs.Layers.{if_ok}
use Rattle.tui_textarea.proofs.drawing.render.draw_at_width.Goals as goal

pub returns-clause-ok : goal.returns-clause-ok
returns-clause-ok c =
    let widget : WidgetState = widget_state c.args.document.now c.args.search.now c.args.surround.now c.args.drawing.now in
    if_ok c.draw_frame.result c.draw_frame.ensures.ok (λ placement h. record {
      rows = c.view_with.result;
      rows_are = c.view_with.ensures;
      drawn = subst (λ (v : ViewportState). IsFrameDrawn (frame_of widget c.view_with.result) v c.args.area c.args.inner c.args.buffer.now c.draw_frame.new.buffer placement) (ap (λ (d : DrawingState). d.viewport) c.drawing.view_is)
          (subst (λ (f : FrameState). IsFrameDrawn f c.drawing.inside.viewport c.args.area c.args.inner c.args.buffer.now c.draw_frame.new.buffer placement) c.frame-frame.ensures.frame h);
    })
