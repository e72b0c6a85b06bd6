-- The layout of the text after a drawing, a move and a scroll, and measures of it.
use Rattle.std.proofs.Common.{◌≡◌, ℕ, ◌<◌, ◌&&◌, Bool, true, false, not, List, [], ◌∷◌, Option, None, Some, length, inl, inr, ap, refl, subst, sym, ◌∙◌}
use Rattle.textarea_text.specs.Place.{Place}
use Rattle.textarea_text.specs.Text.{Symbol, lines}
use Rattle.textarea_data.specs.declared.cursor.CursorMove.{CursorMove}
use Rattle.textarea_document.specs.Edits.{has_symbols}
use Rattle.textarea_document.specs.DocumentRows.{HasRowsAt, text_and_layout, with_inner_width}
use Rattle.textarea_document.specs.DocumentState.{DocumentState}
use Rattle.tui_textarea.specs.DrawnFrame.{WidgetState, frame_of}
use Rattle.textarea_view.specs.Frame.{has_lines, shows_placeholder}
use Rattle.textarea_lines.specs.TextLayout.{TextAndLayout, Layout, at_width, with_settings, wrapping_at, wrapping_of}
use Rattle.textarea_screen_map.specs.BorrowedLines.{BorrowedRows}
use Rattle.textarea_screen_map.specs.Map.{IsRowCount}
use Rattle.textarea_lines.specs.View.{IsViewOf}
use Rattle.textarea_lines.specs.Wrappings.{wrapped_at_width}
use Rattle.textarea_lines.specs.declared.settings.LayoutSettings.{LayoutSettings}
use Rattle.textarea_screen_map.specs.LineRows.{AreRowsOf}
use Rattle.textarea_blocks.specs.Sums.{row_total}
use Rattle.textarea_screen_map.specs.declared.layout.Wrapping.{Wrapping}
use Rattle.textarea_screen.specs.Text.{LineView}
use Rattle.textarea_screen.specs.declared.screen.rect.Rect.{Rect}
use Rattle.textarea_view.specs.Measure.{measure_of, visible_row_count, saturated_u16, width_inside}
use Rattle.textarea_view.specs.SurroundState.{SurroundState}
use Rattle.textarea_data.specs.declared.measure.TextAreaMeasure.{TextAreaMeasure}
use Rattle.tui_textarea.specs.Drawing.{IsRendered, widget_of}
use Rattle.tui_textarea.specs.Frames.{HasLayoutFor}
use Rattle.tui_textarea.specs.Measure.{IsMeasured, IsMeasuredAround}
use Rattle.tui_textarea.specs.Moves.{IsMovedWith, after_move_by, bias_of, pushed}
use Rattle.tui_textarea.specs.State.{State}
use Rattle.tui_textarea.proofs.Settling.{LayoutAndRanges, settled_as, settled_layout}

-- ---- the laws of lines

abbrev pub KeepsText : Type 0
KeepsText = (text_layout : TextAndLayout) (settings : LayoutSettings) → (with_settings text_layout settings).text ≡ text_layout.text

abbrev pub PutsSettings : Type 0
PutsSettings = (text_layout : TextAndLayout) (settings : LayoutSettings) → (with_settings text_layout settings).layout.settings ≡ settings

abbrev pub KeepsItsOwn : Type 0
KeepsItsOwn = (text_layout : TextAndLayout) → with_settings text_layout text_layout.layout.settings ≡ text_layout

abbrev pub WrapsAsMeasured : Type 0
WrapsAsMeasured = (text_layout : TextAndLayout) (inner_width : ℕ) → 0 < inner_width → wrapping_of (with_settings text_layout (at_width text_layout inner_width)) ≡ wrapping_at text_layout inner_width

abbrev pub HasOneRowCount : Type 0
HasOneRowCount = (document : DocumentState) (inner_width count other : ℕ) → HasRowsAt document inner_width count → HasRowsAt document inner_width other → count ≡ other

-- ---- after a drawing

pub drawn_document : (old new : State) (area : Rect) → IsRendered old area new → new.document ≡ with_inner_width old.document (width_inside old.surround.block area.width)
drawn_document old new area h = ap (λ (p : WidgetState). p.document) h.widget.new_is ∙ ap (with_inner_width old.document) h.widget.inner_is.width

drawn_surround : (old new : State) (area : Rect) → IsRendered old area new → new.surround ≡ old.surround
drawn_surround old new area h = ap (λ (s : State). s.surround) h.rest

pub width_put : (puts : PutsSettings) (old new : State) (area : Rect) → IsRendered old area new → HasLayoutFor new area.width
width_put puts old new area h =
    let text_layout = text_and_layout old.document in
    let width = width_inside old.surround.block area.width in
    ap (λ (d : DocumentState). d.layout.settings.inner_width) (drawn_document old new area h)
    ∙ ap (λ (s : LayoutSettings). s.inner_width) (puts text_layout (at_width text_layout width))
    ∙ ap (λ (s : SurroundState). width_inside s.block area.width) (sym (drawn_surround old new area h))

pub document_stays : (keeps : KeepsItsOwn) (old new : State) (area : Rect) → HasLayoutFor old area.width → IsRendered old area new → new.document ≡ old.document
document_stays keeps old new area same h =
    drawn_document old new area h
    ∙ ap (with_inner_width old.document) (sym same)
    ∙ ap (λ (l : TextAndLayout). record old.document { layout = l.layout }) (keeps (text_and_layout old.document))

-- ---- after a move or a scroll

moved_layout : (state : State) (shift : Bool) (found : Option Place) → (after_move_by state shift found).document.layout ≡ state.document.layout
moved_layout state shift None = refl
moved_layout state shift (Some place) = refl

moved_surround : (state : State) (shift : Bool) (found : Option Place) → (after_move_by state shift found).surround ≡ state.surround
moved_surround state shift None = refl
moved_surround state shift (Some place) = refl

pub layout_moved : (old new : State) (shift : Bool) (cursor_move : CursorMove) → IsMovedWith old shift cursor_move new → new.document.layout ≡ old.document.layout
layout_moved old new shift cursor_move h =
    let found = pushed old.document.ranges cursor_move h.found in
    ap (λ (s : State). s.document.layout) h.new_is
    ∙ ap (λ (s : LayoutAndRanges). s.0.layout) (settled_layout (bias_of cursor_move) (after_move_by old shift found))
    ∙ moved_layout old shift found

surround_moved : (old new : State) (shift : Bool) (cursor_move : CursorMove) → IsMovedWith old shift cursor_move new → new.surround ≡ old.surround
surround_moved old new shift cursor_move h =
    let found = pushed old.document.ranges cursor_move h.found in
    ap (λ (s : State). s.surround) h.new_is
    ∙ ap (λ (s : State). s.surround) (settled_as (bias_of cursor_move) (after_move_by old shift found))
    ∙ moved_surround old shift found

pub width_moved : (old new : State) (shift : Bool) (cursor_move : CursorMove) (width : ℕ) → IsMovedWith old shift cursor_move new → HasLayoutFor old width → HasLayoutFor new width
width_moved old new shift cursor_move width h put =
    ap (λ (l : Layout). l.settings.inner_width) (layout_moved old new shift cursor_move h)
    ∙ put
    ∙ ap (λ (s : SurroundState). width_inside s.block width) (sym (surround_moved old new shift cursor_move h))

-- the same for the width of an area that is equally wide
pub as_wide : (state : State) (area other : Rect) → other.width ≡ area.width → HasLayoutFor state area.width → HasLayoutFor state other.width
as_wide state area other wide put = put ∙ ap (width_inside state.surround.block) (sym wide)

-- ---- measures

rows_without : (displayed : List LineView) (rows : ℕ) (is_empty : Bool) → (is_empty && has_lines displayed) ≡ false → visible_row_count displayed rows is_empty ≡ rows
rows_without [] rows is_empty e = refl
rows_without (line ∷ displayed) rows true e = absurd cc
rows_without (line ∷ displayed) rows false e = refl

rows_with : (displayed : List LineView) (rows : ℕ) (is_empty : Bool) → (is_empty && has_lines displayed) ≡ true → visible_row_count displayed rows is_empty ≡ length displayed
rows_with [] rows true e = absurd cc
rows_with [] rows false e = absurd cc
rows_with (line ∷ displayed) rows true e = refl
rows_with (line ∷ displayed) rows false e = absurd cc

-- the placeholder is shown before a drawing if it is shown after it
shows_before : (old new : State) (area : Rect) (rows : BorrowedRows) (b : Bool) → IsRendered old area new
    → shows_placeholder (frame_of (widget_of new) rows) ≡ b → (not (has_symbols old.document.text) && has_lines old.surround.placeholder.lines) ≡ b
shows_before old new area rows b h e =
    ap (λ (t : List Symbol). not (has_symbols t) && has_lines old.surround.placeholder.lines) (ap (λ (d : DocumentState). d.text) (sym (drawn_document old new area h)))
    ∙ ap (λ (s : SurroundState). not (has_symbols new.document.text) && has_lines s.placeholder.lines) (sym (drawn_surround old new area h))
    ∙ e

content : (state : State) (width : ℕ) (measure : TextAreaMeasure) → (h : IsMeasured state width measure)
    → measure.content_rows ≡ saturated_u16 (visible_row_count state.surround.placeholder.lines h.rows (not (has_symbols state.document.text)))
content state width measure h = ap (λ (m : TextAreaMeasure). m.content_rows) h.measure_is

rows_drawn : (texts : KeepsText) (wraps : WrapsAsMeasured) (document : DocumentState) (inner_width : ℕ) (rows : BorrowedRows) → 0 < inner_width
    → IsViewOf (text_and_layout (with_inner_width document inner_width)) rows → HasRowsAt document inner_width (row_total rows.rows)
unfolding HasRowsAt
rows_drawn texts wraps document inner_width rows some k =
    let text_layout = text_and_layout document in
    let settings = at_width text_layout inner_width in
    let new : TextAndLayout = with_settings text_layout settings in
    let cut : wrapping_of (text_and_layout (with_inner_width document inner_width)) ≡ wrapping_at text_layout inner_width =
    ap (λ (t : List Symbol). wrapping_of (record { text = t; layout = new.layout })) (sym (texts text_layout settings)) ∙ wraps text_layout inner_width some in
    (rows.rows, subst (λ (w : Wrapping). AreRowsOf w (lines document.text) rows.rows) cut k.rows.text_layout, refl)

pub measured_rows : (texts : KeepsText) (wraps : WrapsAsMeasured) (counts : HasOneRowCount) (old new : State) (area : Rect) (measure : TextAreaMeasure) (rows : BorrowedRows)
    → IsMeasured old area.width measure → IsRendered old area new → 0 < width_inside old.surround.block area.width
    → IsViewOf (text_and_layout new.document) rows → shows_placeholder (frame_of (widget_of new) rows) ≡ false
    → measure.content_rows ≡ saturated_u16 (row_total rows.rows)
measured_rows texts wraps counts old new area measure rows m h some k e =
    let width = width_inside old.surround.block area.width in
    let drawn : IsViewOf (text_and_layout (with_inner_width old.document width)) rows = subst (λ (d : DocumentState). IsViewOf (text_and_layout d) rows) (drawn_document old new area h) k in
    content old area.width measure m
    ∙ ap saturated_u16 (rows_without old.surround.placeholder.lines m.rows (not (has_symbols old.document.text)) (shows_before old new area rows false h e))
    ∙ ap saturated_u16 (counts old.document width m.rows (row_total rows.rows) m.rows_are (rows_drawn texts wraps old.document width rows some drawn))

pub measured_placeholder : (old new : State) (area : Rect) (measure : TextAreaMeasure) (rows : BorrowedRows) → IsMeasured old area.width measure
    → IsRendered old area new → shows_placeholder (frame_of (widget_of new) rows) ≡ true
    → measure.content_rows ≡ saturated_u16 (length new.surround.placeholder.lines)
measured_placeholder old new area measure rows m h e =
    content old area.width measure m
    ∙ ap saturated_u16 (rows_with old.surround.placeholder.lines m.rows (not (has_symbols old.document.text)) (shows_before old new area rows true h e))
    ∙ ap (λ (s : SurroundState). saturated_u16 (length s.placeholder.lines)) (sym (drawn_surround old new area h))

-- ---- a measure after a drawing

same_rows : (puts : PutsSettings) (document : DocumentState) (inner width count : ℕ) → HasRowsAt (with_inner_width document inner) width count → HasRowsAt document width count
unfolding HasRowsAt
same_rows puts document inner width count rows =
    let text_layout = text_and_layout document in
    subst (λ (s : LayoutSettings). IsRowCount (wrapped_at_width s width (length (lines document.text))) (lines document.text) count) (puts text_layout (at_width text_layout inner)) rows

measured_after : (puts : PutsSettings) (old new : State) (area : Rect) (width : ℕ) (measure : TextAreaMeasure) → IsRendered old area new → IsMeasured new width measure → IsMeasured old width measure
measured_after puts old new area width measure drawn m =
    let document = drawn_document old new area drawn in
    let surround = drawn_surround old new area drawn in
    record {
      rows = m.rows;
      rows_are = same_rows puts old.document (width_inside old.surround.block area.width) (width_inside old.surround.block width) m.rows
          (subst (λ (d : DocumentState). HasRowsAt d (width_inside old.surround.block width) m.rows) document
          (subst (λ (s : SurroundState). HasRowsAt new.document (width_inside s.block width) m.rows) surround m.rows_are));
      measure_is = m.measure_is
          ∙ ap (λ (s : SurroundState). measure_of s m.rows (not (has_symbols new.document.text))) surround
          ∙ ap (λ (d : DocumentState). measure_of old.surround m.rows (not (has_symbols d.text))) document;
    }

-- a measure before or after a drawing is one before it
pub measured_around : (puts : PutsSettings) (old new : State) (area : Rect) (measure : TextAreaMeasure) → IsRendered old area new → IsMeasuredAround old new area.width measure → IsMeasured old area.width measure
measured_around puts old new area measure drawn m = elim m [ inl before ↦ before | inr after ↦ measured_after puts old new area area.width measure drawn after ]
