-- The drawn parts of a text area, and the state after drawing and scrolling.
use Rattle.std.specs.Prelude.{◌≡◌, ℕ, [], ◌∷◌, ◌++◌}
use Rattle.textarea_data.specs.declared.scroll.Scrolling.{Scrolling}
use Rattle.tui_textarea.specs.DrawnFrame.{WidgetState}
use Rattle.tui_textarea.specs.Rendered as drawing
use Rattle.tui_textarea.specs.DrawingState.{DrawingState, with_viewport}
use Rattle.textarea_view.specs.declared.look.Look.{Look}
use Rattle.textarea_screen.specs.declared.screen.rect.Rect.{Rect}
use Rattle.textarea_screen.specs.declared.screen.style.Style.{Style}
use Rattle.textarea_text.specs.Place.{Place}
use Rattle.textarea_view.specs.Scrolled.{scrolled_by}
use Rattle.tui_textarea.specs.State.{State}

-- the parts of a text area that are drawn
abbrev pub widget_of : State → WidgetState
widget_of state = record { document = state.document; pattern = state.pattern; surround = state.surround; drawing = state.drawing }

abbrev pub with_drawing : State → DrawingState → State
with_drawing state drawing = record state { drawing = drawing }

abbrev pub with_look_set : State → Look → State
with_look_set state look = with_drawing state (record state.drawing { look = look })

-- a custom highlight is added after the others, from a row and byte to a row and byte
abbrev pub highlighted : State → Place × Place → Style → ℕ → State
highlighted state range style priority = with_drawing state (record state.drawing {
  highlights = state.drawing.highlights ++ record { start = range.0; end = range.1; style = style; priority = priority } ∷ [];
})

-- all custom highlights are removed
abbrev pub unhighlighted : State → State
unhighlighted state = with_drawing state (record state.drawing { highlights = [] })

abbrev pub viewport_scrolled : State → Scrolling → State
viewport_scrolled state scrolling =
    with_drawing state (with_viewport state.drawing (scrolled_by state.drawing.viewport scrolling))

-- The state after a drawing into the area: the layout has the width inside the block, and the
-- viewport, the inner area and the caret are those of this drawing. All else is as before.
pub record IsRendered (old : State) (area : Rect) (new : State) : Type 0 where
  pub widget : drawing.IsWidgetRendered (widget_of old) area (widget_of new)
  pub rest : new ≡ record old { document = new.document; drawing = new.drawing }
