-- The state after a drawing, from its steps.
use Rattle.std.proofs.Common.{◌≡◌, ℕ, ap, sym, subst, ◌∙◌}
use Rattle.tui_textarea.specs.DrawingPrelude.{widget_state, text_and_layout, with_inner_width, DocumentState, WidgetState, frame_of, FrameState, Placement, IsDrawn}
use Rattle.tui_textarea.specs.DrawingPrelude.{IsWidgetRendered, at_inner_width, drawn_into, DrawingState, IsDrawnAt, IsFrameDrawn, IsViewOf, Buffer, Rect, IsInner}
use Rattle.tui_textarea.proofs.Widths.{frame_at_width}

-- the parts, with another document and another state of drawing
abbrev pub with_both : WidgetState → DocumentState → DrawingState → WidgetState
with_both widget document drawing = widget_state document widget.pattern widget.surround drawing

-- the steps of a drawing: the inner area, the drawing with the rows at its width, and the new state
pub record IsStepped (old : WidgetState) (area inner : Rect) (width : ℕ) (a b : Buffer) (placement : Placement) (document : DocumentState) (drawing : DrawingState) : Type 0 where
  pub inner_is : IsInner old.surround.block area inner
  pub width_is : width ≡ inner.width
  pub drawn : IsDrawnAt old width area inner a b placement
  pub document_is : document ≡ with_inner_width old.document width
  pub drawing_is : drawing ≡ drawn_into old.drawing inner placement

module _ (old : WidgetState) (area inner : Rect) (width : ℕ) (a b : Buffer) (placement : Placement) (document : DocumentState) (drawing : DrawingState) (h : IsStepped old area inner width a b placement document drawing) where
  new_widget : with_both old document drawing ≡ record (at_inner_width old inner.width) { drawing = drawn_into old.drawing inner placement }
  new_widget =
      ap (λ (d : DocumentState). with_both old d drawing) (h.document_is ∙ ap (with_inner_width old.document) h.width_is)
      ∙ ap (with_both old (with_inner_width old.document inner.width)) h.drawing_is

  rows_there : IsViewOf (text_and_layout (with_inner_width old.document inner.width)) h.drawn.rows
  rows_there = subst (λ (w : ℕ). IsViewOf (text_and_layout (with_inner_width old.document w)) h.drawn.rows) h.width_is h.drawn.rows_are

  drawn_there : IsFrameDrawn (frame_of (at_inner_width old inner.width) h.drawn.rows) old.drawing.viewport area inner a b placement
  drawn_there = subst (λ (f : FrameState). IsFrameDrawn f old.drawing.viewport area inner a b placement) (sym (frame_at_width old inner.width h.drawn.rows)) h.drawn.drawn

  pub rendered : IsWidgetRendered old area (with_both old document drawing)
  rendered = record {
    inner = inner;
    inner_is = h.inner_is;
    rows = h.drawn.rows;
    rows_are = rows_there;
    placement = placement;
    placing_is = drawn_there.placing_is;
    new_is = new_widget;
  }

  pub drawn : IsDrawn (with_both old document drawing) area a b
  drawn =
      let there = drawn_there in
      subst (λ (p : WidgetState). IsDrawn p area a b) (sym new_widget) (record {
        inner = inner;
        inner_is = h.inner_is;
        rows = h.drawn.rows;
        rows_are = rows_there;
        lines = there.lines;
        lines_are = there.lines_are;
        cells = there.cells;
      })
