-- A run is extended by one call, and leads to one state and one screen.
use Rattle.std.proofs.Common.{◌≡◌, ℕ, ◌+◌, ◌<◌, Bool, is_some, List, [], ◌∷◌, ◌++◌, map, take, length, get_or, ap, refl, sym, subst, ◌∙◌}
use Rattle.std.proofs.lemmas.List.{map-append, take_more}
use Rattle.textarea_calls.specs.declared.action.Action.{Action}
use Rattle.textarea_data.specs.declared.cursor.CursorMove.{CursorMove}
use Rattle.std.specs.Option.{option_map}
use Rattle.textarea_view.specs.Cells.{AreLinesOf, frame_change}
use Rattle.tui_textarea.specs.DrawnFrame.{WidgetState, frame_of}
use Rattle.tui_textarea.specs.Rendered as rendered
use Rattle.tui_textarea.specs.Rendered.{IsDrawn}
use Rattle.textarea_screen.specs.Buffer.{cell_at}
use Rattle.textarea_screen.specs.declared.screen.buffer.Buffer.{Buffer}
use Rattle.textarea_screen.specs.declared.screen.rect.Rect.{Rect}
use Rattle.tui_textarea.specs.Drawing.{IsRendered, widget_of, viewport_scrolled}
use Rattle.tui_textarea.specs.State.{State}
use Rattle.tui_textarea.specs.Input.{IsAfterAction, asked_by, asked_without_shortcuts}
use Rattle.tui_textarea.specs.Moves.{IsMovedWith}
use Rattle.textarea_data.specs.declared.cursor.CursorMove.TheVariants.{InViewport}
use Rattle.tui_textarea.specs.Outcomes.{IsAfterCall, IsBufferAfter}
use Rattle.tui_textarea.specs.Run.{Leads, CallLeads, ShowsSame}
use Rattle.tui_textarea.specs.CallResults.{CallResult, call_result}
use Rattle.textarea_calls.specs.declared.call.Call.{Call}
use Rattle.textarea_calls.specs.declared.call.Call.TheVariants.{Input, InputWithoutShortcuts, Move, Render, Scroll, SetSearchPattern, SetSearchText}
use Rattle.textarea_calls.specs.declared.answer.Answer.{Answer}

-- ---- one more call

pub Leads-append : (old mid new : State) (buffer screen displayed : Buffer) (calls : List Call) (results : List CallResult) (call : Call) (returned : CallResult)
    → Leads old buffer calls results mid screen → CallLeads mid screen call returned new displayed
    → Leads old buffer (calls ++ call ∷ []) (results ++ returned ∷ []) new displayed
Leads-append old mid new buffer screen displayed [] [] call returned so_far made =
    (new, displayed, subst (λ (b : Buffer). CallLeads old b call returned new displayed) so_far.1 (subst (λ (s : State). CallLeads s screen call returned new displayed) so_far.0 made), (refl, refl))
Leads-append old mid new buffer screen displayed [] (a ∷ results) call returned so_far made = absurd so_far
Leads-append old mid new buffer screen displayed (first ∷ calls) [] call returned so_far made = absurd so_far
Leads-append old mid new buffer screen displayed (first ∷ calls) (a ∷ results) call returned so_far made =
    (so_far.0, so_far.1, so_far.2, Leads-append so_far.0 mid new so_far.1 screen displayed calls results call returned so_far.3 made)

-- the calls up to the one at the index
pub one_more : (calls : List Call) (index : ℕ) (call : Call) → index < length calls → call ≡ get_or calls index call → take index calls ++ call ∷ [] ≡ take (index + 1) calls
one_more calls index call within is_call =
    ap (λ (this : Call). take index calls ++ this ∷ []) is_call ∙ sym (take_more calls index call within)

-- the calls up to the one at the index lead to the state and buffer after that one
pub leads_more : (old mid new : State) (buffer screen displayed : Buffer) (calls : List Call) (results : List Answer) (index : ℕ) (call : Call) (returned : Answer)
    → index < length calls → call ≡ get_or calls index call → Leads old buffer (take index calls) (map call_result results) mid screen
    → CallLeads mid screen call (call_result returned) new displayed
    → Leads old buffer (take (index + 1) calls) (map call_result (results ++ returned ∷ [])) new displayed
leads_more old mid new buffer screen displayed calls results index call returned within is_call so_far made =
    subst (λ (a : List CallResult). Leads old buffer (take (index + 1) calls) a new displayed) (sym (map-append call_result results (returned ∷ [])))
    (subst (λ (done : List Call). Leads old buffer done (map call_result results ++ call_result returned ∷ []) new displayed) (one_more calls index call within is_call)
    (Leads-append old mid new buffer screen displayed (take index calls) (map call_result results) call (call_result returned) so_far made))

-- ---- one final state

abbrev pub OneMove : Type 0
OneMove = (old first second : State) (shift : Bool) (cursor_move : CursorMove) → IsMovedWith old shift cursor_move first → IsMovedWith old shift cursor_move second → first ≡ second

abbrev pub OneInput : Type 0
OneInput = (old first second : State) (action : Action) → IsAfterAction old action first → IsAfterAction old action second → first ≡ second

-- each drawing of the drawn parts leads to one result
abbrev pub OneRendering : Type 0
OneRendering = (old first second : WidgetState) (area : Rect) → rendered.IsWidgetRendered old area first → rendered.IsWidgetRendered old area second → first ≡ second

one_rendered : OneRendering → (old first second : State) (area : Rect) → IsRendered old area first → IsRendered old area second → first ≡ second
one_rendered renderings old first second area e f =
    let same : widget_of first ≡ widget_of second = renderings (widget_of old) (widget_of first) (widget_of second) area e.widget f.widget in
    e.rest ∙ ap (λ (widget : WidgetState). record old { document = widget.document; drawing = widget.drawing }) same ∙ sym f.rest

one_after : OneMove → OneInput → OneRendering → (old : State) (call : Call) (returned : CallResult) (first second : State) → IsAfterCall old call returned first → IsAfterCall old call returned second → first ≡ second
one_after moves inputs renderings old (SetSearchPattern text) returned first second e f = e ∙ sym f
one_after moves inputs renderings old (SetSearchText text ignore_case whole_word) returned first second e f = e ∙ sym f
one_after moves inputs renderings old (Move cursor_move) returned first second e f = moves old first second (is_some old.document.anchor) cursor_move e f
one_after moves inputs renderings old (Scroll scrolling) returned first second e f = moves (viewport_scrolled old scrolling) first second (is_some old.document.anchor) InViewport e f
one_after moves inputs renderings old (Input input) returned first second e f = inputs old first second (asked_by input.now) e f
one_after moves inputs renderings old (InputWithoutShortcuts input) returned first second e f = inputs old first second (asked_without_shortcuts input.now) e f
one_after moves inputs renderings old (Render area) returned first second e f = one_rendered renderings old first second area e f
one_after moves inputs renderings old call returned first second e f = e ∙ sym f

pub one_end : OneMove → OneInput → OneRendering
    → (calls : List Call) (results : List CallResult) (old first second : State) (buffer other displayed drawn : Buffer)
    → Leads old buffer calls results first displayed → Leads old other calls results second drawn → first ≡ second
one_end moves inputs renderings [] [] old first second buffer other displayed drawn e f = e.0 ∙ sym f.0
one_end moves inputs renderings [] (a ∷ results) old first second buffer other displayed drawn e f = absurd e
one_end moves inputs renderings (call ∷ calls) [] old first second buffer other displayed drawn e f = absurd e
one_end moves inputs renderings (call ∷ calls) (returned ∷ results) old first second buffer other displayed drawn e f =
    let same = one_after moves inputs renderings old call returned f.0 e.0 f.2.after e.2.after in
    one_end moves inputs renderings calls results e.0 first second e.1 f.1 displayed drawn e.3 (subst (λ (s : State). Leads s f.1 calls results second drawn) same f.3)

-- ---- one screen

-- the cells after a drawing are determined
abbrev pub OneDrawing : Type 0
OneDrawing = (widget : WidgetState) (area : Rect) (old first second : Buffer) → IsDrawn widget area old first → IsDrawn widget area old second → (x y : ℕ) → cell_at first x y ≡ cell_at second x y

-- a drawing over a buffer is also one over any buffer with the same cells
drawn_over : (widget : WidgetState) (area : Rect) (old other new : Buffer) → ShowsSame old other → IsDrawn widget area old new → IsDrawn widget area other new
drawn_over widget area old other new same drawn = record {
  inner = drawn.inner;
  inner_is = drawn.inner_is;
  rows = drawn.rows;
  rows_are = drawn.rows_are;
  lines = drawn.lines;
  lines_are = subst (λ (whole : Rect). AreLinesOf (frame_of widget drawn.rows) widget.drawing.viewport drawn.inner whole drawn.lines) same.area drawn.lines_are;
  cells = record {
    area = drawn.cells.area ∙ same.area;
    cells = λ x y. drawn.cells.cells x y ∙ ap (option_map (frame_change (frame_of widget drawn.rows) widget.drawing.viewport area drawn.inner drawn.lines x y)) (same.cells x y);
  };
}

drawn_same : OneDrawing → (widget : WidgetState) (area : Rect) (old other first second : Buffer) → IsDrawn widget area old first → IsDrawn widget area other second → ShowsSame old other → ShowsSame first second
drawn_same drawings widget area old other first second e f same =
    let over = drawn_over widget area old other first same e in
    record {
      area = over.cells.area ∙ sym f.cells.area;
      cells = drawings widget area other first second over f;
    }

-- a call that doesn't draw leaves the buffer
still_same : (old other first second : Buffer) → first ≡ old → second ≡ other → ShowsSame old other → ShowsSame first second
still_same old other first second e f same =
    subst (λ (b : Buffer). ShowsSame b second) (sym e) (subst (ShowsSame old) (sym f) same)

one_buffer : OneDrawing → (call : Call) (state : State) (old other first second : Buffer) → IsBufferAfter call state old first → IsBufferAfter call state other second → ShowsSame old other → ShowsSame first second
one_buffer drawings (Render area) state old other first second e f same = drawn_same drawings (widget_of state) area old other first second e f same
one_buffer drawings call state old other first second e f same = still_same old other first second e f same

pub one_screen : OneMove → OneInput → OneRendering → OneDrawing
    → (calls : List Call) (results : List CallResult) (old first second : State) (buffer other displayed drawn : Buffer)
    → Leads old buffer calls results first displayed → Leads old other calls results second drawn → ShowsSame buffer other → ShowsSame displayed drawn
one_screen moves inputs renderings drawings [] [] old first second buffer other displayed drawn e f same = still_same buffer other displayed drawn e.1 f.1 same
one_screen moves inputs renderings drawings [] (a ∷ results) old first second buffer other displayed drawn e f same = absurd e
one_screen moves inputs renderings drawings (call ∷ calls) [] old first second buffer other displayed drawn e f same = absurd e
one_screen moves inputs renderings drawings (call ∷ calls) (returned ∷ results) old first second buffer other displayed drawn e f same =
    let here : f.0 ≡ e.0 = one_after moves inputs renderings old call returned f.0 e.0 f.2.after e.2.after in
    let made : CallLeads old other call returned e.0 f.1 = subst (λ (s : State). CallLeads old other call returned s f.1) here f.2 in
    let later : Leads e.0 f.1 calls results second drawn = subst (λ (s : State). Leads s f.1 calls results second drawn) here f.3 in
    one_screen moves inputs renderings drawings calls results e.0 first second e.1 f.1 displayed drawn e.3 later (one_buffer drawings call e.0 buffer other e.1 f.1 e.2.drawn made.drawn same)
