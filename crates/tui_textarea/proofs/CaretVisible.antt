-- The caret is shown if the inner area has room for it.
use Rattle.std.proofs.Common.{◌≡◌, ◌≢◌, ℕ, ◌+◌, ◌-◌, ◌*◌, ◌^◌, ◌<◌, ◌≤◌, ◌==◌, ◌||◌, max, Bool, true, false, List, [], ◌∷◌, None, Some, IsSome, rules, if◌then◌else◌, length, refl, ap, ap₂, arith, subst, sym, ◌∙◌}
use Rattle.std.proofs.lemmas.Bool.Decides.{nat_tests}
use Rattle.tui_textarea.specs.DrawingPrelude.{size_limit, text_and_layout, with_inner_width, DocumentState, WidgetState, frame_of, scene_of, number_width, shows_placeholder}
use Rattle.tui_textarea.specs.DrawingPrelude.{IsPlacement, IsPlacementInRows, IsPlacementWith, Placement, row_view, VisualPosition, viewport_at, IsWidgetRendered, at_inner_width}
use Rattle.tui_textarea.specs.DrawingPrelude.{HasRoomForCaret, HasWidthForCaret, HasWidthForRows, IsCaretVisible, number_columns, at_width, wrapping_of, BorrowedRows, IsViewOf}
use Rattle.tui_textarea.specs.DrawingPrelude.{is_wrapped, wrapping_for, LayoutSettings, AreRowsOf, row_total, size_total, greatest_column, row_at, Wrapping, Alignment, Left, Rect}
use Rattle.tui_textarea.specs.DrawingPrelude.{weight, Symbol, Break, Character, following, joined, lines, on_first, caret_at, left_view, showing_row, showing_row_and_column}
use Rattle.tui_textarea.specs.DrawingPrelude.{ViewportState, RowView, HaveFittingClusters, line_number_columns, RowsView, WrapMode}
use Rattle.tui_textarea.proofs.CaretHit.{IsVisualAtColumn, IsVisualInRow, PutsSettings, made, made_area}
use Rattle.tui_textarea.proofs.DrawnRows.{borrowed_right}
use Rattle.tui_textarea.proofs.Rects.{last_area_once}
use Rattle.textarea_text.proofs.TextPlaces.{joined-lines}
use Rattle.textarea_wrap.specs.declared.wrap.WrapMode.TheVariants as wrap

-- ---- the laws of the caret and of the map of visual rows

abbrev pub IsVisible : Type 0
IsVisible = (viewport : ViewportState) (area : Rect) (row column line_number_width : ℕ) → 0 < area.height → 2 * line_number_width < area.width → row < 2 ^ 64
    → column + line_number_width < 2 ^ 64
    → IsSome (caret_at (left_view (showing_row_and_column viewport area row column line_number_width) area line_number_width) row column)

abbrev pub IsVisibleInWrapped : Type 0
IsVisibleInWrapped = (viewport : ViewportState) (area : Rect) (row column line_number_width : ℕ) → 0 < area.height → column + line_number_width < area.width
    → row < 2 ^ 64 → IsSome (caret_at (left_view (showing_row viewport area row) area line_number_width) row column)

abbrev pub HasCursorsWithin : Type 0
HasCursorsWithin = (wrapping : Wrapping) (lines : List (List ℕ)) (rows : List RowsView) (row : ℕ) → AreRowsOf wrapping lines rows → wrapping.mode ≢ wrap.None
    → 0 < wrapping.tab_len → HaveFittingClusters wrapping.tab_len (max wrapping.width 1) lines → row < row_total rows
    → greatest_column wrapping.tab_len (row_at lines rows row) ≤ max wrapping.width 1

abbrev pub HasFewColumns : Type 0
HasFewColumns = (wrapping : Wrapping) (lines : List (List ℕ)) (rows : List RowsView) (row : ℕ) → AreRowsOf wrapping lines rows → wrapping.tab_len < 2 ^ 8
    → row < row_total rows → greatest_column wrapping.tab_len (row_at lines rows row) < 2 ^ 56

abbrev pub HasSize : Type 0
HasSize = (wrapping : Wrapping) (lines : List (List ℕ)) (rows : List RowsView) → AreRowsOf wrapping lines rows → size_total rows ≡ weight (following lines)

abbrev pub HasFewRows : Type 0
HasFewRows = (wrapping : Wrapping) (lines : List (List ℕ)) (rows : List RowsView) → AreRowsOf wrapping lines rows → row_total rows ≤ size_total rows

pub record Laws : Type 0 where
  pub visible : IsVisible
  pub wrapped_visible : IsVisibleInWrapped
  pub visual_row_is : IsVisualInRow
  pub visual_column_is : IsVisualAtColumn
  pub within : HasCursorsWithin
  pub few_columns : HasFewColumns
  pub size : HasSize
  pub few_rows : HasFewRows
  pub settings_put : PutsSettings

-- ---- the wrapping of the lines

wraps_beside : (m : WrapMode) (t w n : ℕ) (numbers : Bool) → m ≢ wrap.None → line_number_columns numbers n + 2 ≤ w
    → wrapping_for (record { mode = m; tab_len = t; line_numbers = numbers; inner_width = w }) n ≡ record { mode = m; width = w - line_number_columns numbers n - 1; tab_len = t }
wraps_beside m t w n numbers wraps h =
    let some : (w == 0) ≡ false = grind (arith, nat_tests) in
    let left : max (w - line_number_columns numbers n - 1) 1 ≡ w - line_number_columns numbers n - 1 = omega (arith, h) in
    by m wraps some left
  where
    by : (k : WrapMode) → k ≢ wrap.None → (w == 0) ≡ false → max (w - line_number_columns numbers n - 1) 1 ≡ w - line_number_columns numbers n - 1
        → wrapping_for (record { mode = k; tab_len = t; line_numbers = numbers; inner_width = w }) n ≡ record { mode = k; width = w - line_number_columns numbers n - 1; tab_len = t }
    by wrap.None wraps some left = absurd (wraps refl)
    by wrap.Word wraps some left = rw some (ap (λ (v : ℕ). record { mode = wrap.Word; width = v; tab_len = t }) left)
    by wrap.Glyph wraps some left = rw some (ap (λ (v : ℕ). record { mode = wrap.Glyph; width = v; tab_len = t }) left)
    by wrap.WordOrGlyph wraps some left = rw some (ap (λ (v : ℕ). record { mode = wrap.WordOrGlyph; width = v; tab_len = t }) left)

tab_unchanged : (b : Bool) (one other : Wrapping) (t : ℕ) → one.tab_len ≡ t → other.tab_len ≡ t → (if b then one else other).tab_len ≡ t
tab_unchanged true one other t h k = h
tab_unchanged false one other t h k = k

-- ---- the number of rows

on_first_some : (c : ℕ) (rows : List (List ℕ)) → 0 < length (on_first c rows)
on_first_some c [] = omega arith
on_first_some c (line ∷ rows) = omega arith

lines_some : (text : List Symbol) → 0 < length (lines text)
lines_some [] = omega arith
lines_some (Character c ∷ text) = on_first_some c (lines text)
lines_some (Break ∷ text) = omega arith

weight_following : (rows : List (List ℕ)) → 0 < length rows → weight (following rows) ≡ 1 + weight (joined rows)
weight_following [] some = absurd (omega arith)
weight_following (line ∷ rows) some = refl

weight_of_lines : (text : List Symbol) → weight (following (lines text)) ≡ 1 + weight text
weight_of_lines text = weight_following (lines text) (lines_some text) ∙ ap (λ t. 1 + weight t) (joined-lines text)

-- ---- the widths that the wrap modes need

none_width : (m : WrapMode) (document : DocumentState) (width : ℕ) → HasWidthForCaret m document width → m ≡ wrap.None → 2 * number_columns document < width
none_width wrap.None document width h e = h
none_width wrap.Word document width h e = absurd cc
none_width wrap.Glyph document width h e = absurd cc
none_width wrap.WordOrGlyph document width h e = absurd cc

rows_width : (m : WrapMode) (document : DocumentState) (width : ℕ) → HasWidthForCaret m document width → m ≢ wrap.None → HasWidthForRows document width
rows_width wrap.None document width h wraps = absurd (wraps refl)
rows_width wrap.Word document width h wraps = h
rows_width wrap.Glyph document width h wraps = h
rows_width wrap.WordOrGlyph document width h wraps = h

some_width : (m : WrapMode) (document : DocumentState) (width : ℕ) → HasWidthForCaret m document width → 0 < width
some_width wrap.None document width h = omega (arith, h)
some_width wrap.Word document width h = omega (arith, h.columns)
some_width wrap.Glyph document width h = omega (arith, h.columns)
some_width wrap.WordOrGlyph document width h = omega (arith, h.columns)

-- ---- a row

visible_in : (laws : Laws) (m : WrapMode) (viewport : ViewportState) (inner : Rect) (columns : ℕ) (visual : VisualPosition) → 0 < inner.height
    → visual.row < 2 ^ 64 → (m ≡ wrap.None → 2 * columns < inner.width) → (m ≡ wrap.None → visual.column + columns < 2 ^ 64)
    → (m ≢ wrap.None → visual.column + columns < inner.width)
    → IsSome (caret_at (left_view (viewport_at m viewport inner columns visual) inner columns) visual.row visual.column)
visible_in laws wrap.None viewport inner columns visual high few wide small beside = laws.visible viewport inner visual.row visual.column columns high (wide refl) few (small refl)
visible_in laws wrap.Word viewport inner columns visual high few wide small beside = laws.wrapped_visible viewport inner visual.row visual.column columns high (beside (λ e. cc)) few
visible_in laws wrap.Glyph viewport inner columns visual high few wide small beside = laws.wrapped_visible viewport inner visual.row visual.column columns high (beside (λ e. cc)) few
visible_in laws wrap.WordOrGlyph viewport inner columns visual high few wide small beside = laws.wrapped_visible viewport inner visual.row visual.column columns high (beside (λ e. cc)) few

left_row : (alignment : Alignment) (viewport : ViewportState) (inner : Rect) (start columns : ℕ) → alignment ≡ Left → row_view alignment viewport inner start columns ≡ left_view viewport inner columns
left_row alignment viewport inner start columns e = ap (λ (a : Alignment). row_view a viewport inner start columns) e

corner_some : (w h : ℕ) (corner : ℕ × ℕ) → 0 < w → 0 < h → IsSome (if (w == 0) || (h == 0) then None else Some corner)
corner_some w h corner wide high =
    let columns : (w == 0) ≡ false = grind (arith, nat_tests) in
    let rows : (h == 0) ≡ false = grind (arith, nat_tests) in
    rw (columns, rows) (search rules)

module _ (laws : Laws) (new : WidgetState) (rows : BorrowedRows) (view : IsViewOf (text_and_layout new.document) rows) where
  abbrev settings : LayoutSettings
  settings = new.document.layout.settings

  right : AreRowsOf rows.wrapping rows.lines rows.rows
  right = borrowed_right (text_and_layout new.document) rows view

  few : weight new.document.text < size_limit → (row : ℕ) → row < row_total rows.rows → row < 2 ^ 64
  few limit row below =
      omega (arith, below, laws.few_rows rows.wrapping rows.lines rows.rows right, laws.size rows.wrapping rows.lines rows.rows right, ap (λ (l : List (List ℕ)). weight (following l)) view.lines, weight_of_lines new.document.text, limit)

  few_in_row : settings.tab_len < 2 ^ 8 → (row : ℕ) → row < row_total rows.rows → greatest_column rows.wrapping.tab_len (row_at rows.lines rows.rows row) < 2 ^ 56
  few_in_row tabs row below =
      let tab : rows.wrapping.tab_len ≡ settings.tab_len = ap (λ (w : Wrapping). w.tab_len) view.wrapping ∙ tab_unchanged (is_wrapped settings) _ _ settings.tab_len refl refl in
      laws.few_columns rows.wrapping rows.lines rows.rows row right (omega (arith, tab, tabs)) below

  within_row : settings.mode ≢ wrap.None → HasWidthForRows new.document settings.inner_width → (row : ℕ) → row < row_total rows.rows
      → greatest_column rows.wrapping.tab_len (row_at rows.lines rows.rows row) + number_columns new.document < settings.inner_width
  within_row wraps room row below =
      let text = lines new.document.text in
      let left = settings.inner_width - number_columns new.document - 1 in
      let wrapping : Wrapping = record { mode = settings.mode; width = left; tab_len = settings.tab_len } in
      let cut : wrapping_of (text_and_layout new.document) ≡ wrapping = wraps_beside settings.mode settings.tab_len settings.inner_width (length text) settings.line_numbers wraps room.columns in
      let width : left ≡ max left 1 = omega (arith, room.columns) in
      let bound = laws.within wrapping text rows.rows row
      (subst (λ (w : Wrapping). AreRowsOf w text rows.rows) cut view.rows.text_layout) wraps room.tabs
      (subst (λ (n : ℕ). HaveFittingClusters settings.tab_len n text) width room.clusters) below in
      let same : greatest_column rows.wrapping.tab_len (row_at rows.lines rows.rows row) ≡ greatest_column settings.tab_len (row_at text rows.rows row) =
      ap₂ (λ (t : ℕ) (l : List (List ℕ)). greatest_column t (row_at l rows.rows row)) (ap (λ (w : Wrapping). w.tab_len) (view.wrapping ∙ cut)) view.lines in
      omega (arith, bound, same, room.columns)

  module _ (viewport : ViewportState) (inner : Rect) (placement : Placement) (width : settings.inner_width ≡ inner.width)
      (limit : weight new.document.text < size_limit) (tabs : settings.tab_len < 2 ^ 8) (room : HasRoomForCaret new inner) where
    in_rows : IsPlacementInRows (scene_of new rows) settings.mode viewport inner placement → IsSome placement.caret
    in_rows h =
        let columns = number_width (scene_of new rows) in
        let same : columns ≡ number_columns new.document = ap (λ (l : List (List ℕ)). line_number_columns settings.line_numbers (length l)) view.lines in
        let below : h.visual.row < row_total rows.rows = laws.visual_row_is rows.wrapping rows.lines rows.rows new.document.cursor h.visual right h.visual_is in
        let reached = laws.visual_column_is rows.wrapping.tab_len rows.lines rows.rows new.document.cursor h.visual h.visual_is in
        let wide : settings.mode ≡ wrap.None → 2 * columns < inner.width = λ e. omega (arith, none_width settings.mode new.document inner.width room.columns e, same) in
        let small : settings.mode ≡ wrap.None → h.visual.column + columns < 2 ^ 64 = λ e. omega (arith, wide e, inner.right, reached, few_in_row tabs h.visual.row below) in
        let beside : settings.mode ≢ wrap.None → h.visual.column + columns < inner.width =
        λ wraps.
        let stored : HasWidthForRows new.document settings.inner_width = subst (HasWidthForRows new.document) (sym width) (rows_width settings.mode new.document inner.width room.columns wraps) in
        omega (arith, same, width, reached, within_row wraps stored h.visual.row below) in
        let lies : h.view ≡ left_view (viewport_at settings.mode viewport inner columns h.visual) inner columns =
        h.view_is.view_is ∙ left_row new.drawing.look.alignment placement.viewport inner h.view_is.start columns room.left ∙ ap (λ (v : ViewportState). left_view v inner columns) h.viewport_is in
        subst IsSome (sym (h.caret_is ∙ ap (λ (v : RowView). caret_at v h.visual.row h.visual.column) lies))
        (visible_in laws settings.mode viewport inner columns h.visual room.row (few limit h.visual.row below) wide small beside)

    placed : (b : Bool) → IsPlacementWith b (frame_of new rows) viewport inner placement → IsSome placement.caret
    placed true h = subst IsSome (sym (ap (λ (p : Placement). p.caret) h)) (corner_some inner.width inner.height (inner.x, inner.y) (some_width settings.mode new.document inner.width room.columns) room.row)
    placed false h = in_rows h

-- ---- a drawing

made_visible : (laws : Laws) (old : WidgetState) (inner : Rect) (rows : BorrowedRows) (placement : Placement)
    → IsViewOf (text_and_layout (with_inner_width old.document inner.width)) rows
    → IsPlacement (frame_of (at_inner_width old inner.width) rows) old.drawing.viewport inner placement
    → weight (made old inner placement).document.text < size_limit → (made old inner placement).document.layout.settings.tab_len < 2 ^ 8
    → IsCaretVisible (made old inner placement)
made_visible laws old inner rows placement view is_placed limit tabs = λ other other_is room.
    let new = made old inner placement in
    let same : other ≡ inner = last_area_once new.document new.drawing other inner other_is (made_area laws.settings_put old inner placement) in
    let text_layout = text_and_layout old.document in
    let width : new.document.layout.settings.inner_width ≡ inner.width = ap (λ (s : LayoutSettings). s.inner_width) (laws.settings_put text_layout (at_width text_layout inner.width)) in
    placed laws new rows view old.drawing.viewport inner placement width limit tabs (subst (HasRoomForCaret new) same room) (shows_placeholder (frame_of new rows)) is_placed

pub caret_visible : (laws : Laws) (old new : WidgetState) (area : Rect) → IsWidgetRendered old area new → weight new.document.text < size_limit → new.document.layout.settings.tab_len < 2 ^ 8 → IsCaretVisible new
caret_visible laws old new area h =
    subst (λ (p : WidgetState). weight p.document.text < size_limit → p.document.layout.settings.tab_len < 2 ^ 8 → IsCaretVisible p) (sym h.new_is)
    (made_visible laws old h.inner h.rows h.placement h.rows_are h.placing_is)
