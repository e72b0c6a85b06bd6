-- The states after a drawing, and after moves from there, computed; and what holds of them.
use Rattle.std.proofs.Common.{◌≡◌, ℕ, Option, None, Some, is_some, ap, refl, subst, sym, ◌∙◌}
use Rattle.textarea_data.specs.declared.cursor.CursorMove.TheVariants.{Bottom, End}
use Rattle.textarea_document.specs.DocumentWraps.{WrapsNothing}
use Rattle.textarea_document.specs.DocumentRows.{with_inner_width}
use Rattle.textarea_document.specs.DocumentState.{DocumentState}
use Rattle.tui_textarea.specs.DrawingState.{DrawingState}
use Rattle.textarea_lines.specs.TextLayout.{Layout}
use Rattle.textarea_screen.specs.declared.screen.rect.Rect.{Rect}
use Rattle.textarea_screen.specs.declared.screen.style.Style.{Style}
use Rattle.textarea_view.specs.Measure.{width_inside}
use Rattle.textarea_view.specs.SurroundState.{SurroundState}
use Rattle.textarea_text.specs.Place.{Place, last_row, line_end}
use Rattle.textarea_text.specs.Text.{lines}
use Rattle.textarea_text.specs.Between.{clip}
use Rattle.textarea_wrap.specs.declared.wrap.WrapMode.{WrapMode}
use Rattle.tui_textarea.specs.Drawing.{IsRendered}
use Rattle.tui_textarea.specs.Frames.{HasLayoutFor}
use Rattle.tui_textarea.specs.Moves.{IsMoved, after_move_by, pushed}
use Rattle.tui_textarea.specs.Search.{after_search}
use Rattle.tui_textarea.specs.State.{State}
use Rattle.textarea_tests.specs.WrappedLines.{HoldsForHundred, HoldsForNine, IsAtEndOf, hundred_lines, nine_lines}
use Rattle.textarea_data.specs.declared.cursor.CursorUnit.TheVariants.{Character}
use Rattle.textarea_data.specs.declared.range.AtomicCursorBias.TheVariants.{Forward}
use Rattle.tui_textarea.specs.Units.{settled}
use Rattle.tui_textarea.proofs.Frames.{drawn_document}
use Rattle.tui_textarea.proofs.Settling.{LayoutAndRanges, settled_as, settled_by_characters, settled_layout}

-- the state after a drawing into an area of this width
abbrev drawn_at : State → ℕ → DrawingState → State
drawn_at old width drawing = record old { document = with_inner_width old.document (width_inside old.surround.block width); drawing = drawing }

drawn_is : (old new : State) (area : Rect) (width : ℕ) → area.width ≡ width → IsRendered old area new → new ≡ drawn_at old width new.drawing
drawn_is old new area width is h =
    h.rest
    ∙ ap (λ (d : DocumentState). record old { document = d; drawing = new.drawing }) (drawn_document old new area h)
    ∙ ap (λ (n : ℕ). drawn_at old n new.drawing) is

-- ---- a hundred lines

abbrev hundred : DrawingState → State
hundred drawing = drawn_at hundred_lines 6 drawing

pub hundred_holds : (Fact : State → Type 0) → ((drawing : DrawingState) → Fact (hundred drawing)) → HoldsForHundred Fact
hundred_holds Fact each drawn area wide h = subst Fact (sym (drawn_is hundred_lines drawn area 6 wide h)) (each drawn.drawing)

-- ---- nine lines

-- a move to the last line, and one to its end
abbrev below_all : State → State
below_all state = after_move_by state (is_some state.document.anchor) (pushed state.document.ranges Bottom (Some (clip (lines state.document.text) (last_row (lines state.document.text), state.document.cursor.1))))

abbrev at_end : State → State
at_end state = after_move_by state (is_some state.document.anchor) (pushed state.document.ranges End (Some (line_end (lines state.document.text) state.document.cursor.0)))

below_is : (old new : State) → old.settings.cursor_unit ≡ Character → IsMoved old Bottom new → new ≡ below_all old
below_is old new unit h =
    h.new_is
    ∙ ap (λ (found : Option Place). settled Forward (after_move_by old (is_some old.document.anchor) (pushed old.document.ranges Bottom found))) h.target_is
    ∙ settled_by_characters Forward (below_all old) unit

end_is : (old new : State) → old.settings.cursor_unit ≡ Character → IsMoved old End new → new ≡ at_end old
end_is old new unit h =
    h.new_is
    ∙ ap (λ (found : Option Place). settled Forward (after_move_by old (is_some old.document.anchor) (pushed old.document.ranges End found))) h.target_is
    ∙ settled_by_characters Forward (at_end old) unit

-- at the end of the last line, after a drawing into an area of this width
abbrev nine : WrapMode → Style → ℕ → DrawingState → State
nine mode style width drawing = at_end (below_all (drawn_at (nine_lines mode style) width drawing))

is_nine : (mode : WrapMode) (style : Style) (drawn ended : State) (area : Rect) (width : ℕ) → area.width ≡ width → IsRendered (nine_lines mode style) area drawn → IsAtEndOf drawn ended → ended ≡ nine mode style width drawn.drawing
is_nine mode style drawn ended area width wide h k =
    let is = drawn_is (nine_lines mode style) drawn area width wide h in
    let unit : drawn.settings.cursor_unit ≡ Character = ap (λ (s : State). s.settings.cursor_unit) is in
    let below = below_is drawn k.0 unit k.1 in
    end_is k.0 ended (ap (λ (s : State). s.settings.cursor_unit) below ∙ unit) k.2 ∙ ap at_end below ∙ ap (λ (s : State). at_end (below_all s)) is

pub nine_holds : (mode : WrapMode) (width : ℕ) (Fact : State → Type 0) → ((style : Style) (drawing : DrawingState) → Fact (nine mode style width drawing)) → HoldsForNine mode width Fact
nine_holds mode width Fact each style drawn ended area wide h k =
    subst Fact (sym (is_nine mode style drawn ended area width wide h k)) (each style drawn.drawing)

-- ---- frames

searched_document : (state : State) (found : Option Place) → (after_search state found).document.layout ≡ state.document.layout
searched_document state None = refl
searched_document state (Some place) = refl

searched_surround : (state : State) (found : Option Place) → (after_search state found).surround ≡ state.surround
searched_surround state None = refl
searched_surround state (Some place) = refl

-- and then cursor and anchor are moved out of clusters
went_document : (state : State) (found : Option Place) → (settled Forward (after_search state found)).document.layout ≡ state.document.layout
went_document state found = ap (λ (s : LayoutAndRanges). s.0.layout) (settled_layout Forward (after_search state found)) ∙ searched_document state found

went_surround : (state : State) (found : Option Place) → (settled Forward (after_search state found)).surround ≡ state.surround
went_surround state found = ap (λ (s : State). s.surround) (settled_as Forward (after_search state found)) ∙ searched_surround state found

pub width_searched : (state : State) (found : Option Place) (width : ℕ) → HasLayoutFor state width → HasLayoutFor (settled Forward (after_search state found)) width
width_searched state found width put =
    ap (λ (l : Layout). l.settings.inner_width) (went_document state found)
    ∙ put
    ∙ ap (λ (s : SurroundState). width_inside s.block width) (sym (went_surround state found))

pub still_wrapped : (drawn down scrolled again : State) (found : Option Place) → down.document.layout ≡ drawn.document.layout → scrolled.document.layout ≡ down.document.layout
    → again.document ≡ (settled Forward (after_search scrolled found)).document → WrapsNothing drawn.document again.document
still_wrapped drawn down scrolled again found moved displayed same =
    let layout : again.document.layout ≡ drawn.document.layout =
    ap (λ (d : DocumentState). d.layout) same ∙ went_document scrolled found ∙ displayed ∙ moved in
    record { count = ap (λ (l : Layout). l.count) layout; ticks = ap (λ (l : Layout). l.ticks) layout }
