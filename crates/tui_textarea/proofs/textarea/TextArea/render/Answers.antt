use Rattle.std.proofs.Common.{◌≡◌, ◌∙◌, Err, Ok, Result, ap, ap₂, subst}
use Rattle.std.specs.Result.{OnErr, OnOk}
use Rattle.textarea_document.specs.DocumentState.{DocumentState}
use Rattle.tui_textarea.specs.Rendered as below
use Rattle.tui_textarea.specs.DrawingState.{DrawingState}
use Rattle.textarea_screen.specs.declared.screen.rect.Rect.{Rect}
use Rattle.tui_textarea.specs.Drawing.{IsRendered, widget_of}
use Rattle.tui_textarea.specs.State.{State}
use Rattle.tui_textarea.proofs.textarea.TextArea.render.Goals as goal

rendered : {T E : Type 0} (r : Result T E) {view old : State} → view ≡ old → (area : Rect) (document : DocumentState) (drawing : DrawingState)
    → OnOk r (below.IsWidgetRendered (widget_of view) area (widget_of (record view { document = document; drawing = drawing })))
    → OnOk r (IsRendered old area (record view { document = document; drawing = drawing }))
rendered (Ok x) {view} is area document drawing h = record {
  widget = subst (λ (s : State). below.IsWidgetRendered (widget_of s) area (widget_of (record view { document = document; drawing = drawing }))) is h;
  rest = ap (λ (s : State). record s { document = document; drawing = drawing }) is;
}
rendered (Err e) is area document drawing h = h

-- a state with its old drawn parts is the old one
left : {T E : Type 0} (r : Result T E) {view old : State} → view ≡ old → (document : DocumentState) (drawing : DrawingState)
    → OnErr r ((document ≡ view.document) × (drawing ≡ view.drawing)) → OnErr r (record view { document = document; drawing = drawing } ≡ old)
left (Ok x) is document drawing h = h
left (Err e) {view} is document drawing h = ap₂ (λ d s. record view { document = d; drawing = s }) h.0 h.1 ∙ is

pub returns-clause-ok : goal.returns-clause-ok
returns-clause-ok c = rendered c.render.result c.self.view_is c.args.area c.render.new.document c.render.new.self c.render.ensures.ok

pub returns-clause-cells : goal.returns-clause-cells
returns-clause-cells c = c.render.ensures.cells

pub returns-clause-back : goal.returns-clause-back
returns-clause-back c = c.render.ensures.back

pub returns-clause-displayed : goal.returns-clause-displayed
returns-clause-displayed c = c.render.ensures.displayed

pub returns-clause-err : goal.returns-clause-err
returns-clause-err c = left c.render.result c.self.view_is c.render.new.document c.render.new.self c.render.ensures.err
