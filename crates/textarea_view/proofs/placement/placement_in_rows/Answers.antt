use Rattle.textarea_view.proofs.placement.placement_in_rows.Goals as goal

pub returns : goal.returns
returns c = rw (← c.scene.view_is) (record {
  visual = c.visual_position-visual.result;
  visual_is = c.visual_position-visual.ensures.visual;
  viewport_is = rw (c.number_width.ensures, ← c.scene.view_is) at c.viewport_at-viewport.ensures;
  view = c.in_ok-view.view;
  view_is = rw (← c.scene.view_is) at c.in_ok-view.ensures.view;
  caret_is = c.caret.ensures;
})
