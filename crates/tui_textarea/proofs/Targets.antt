-- The target of each move is a position of the text.
use Rattle.std.proofs.Common.{◌≡◌, ℕ, zero, suc, ◌+◌, ◌-◌, ◌==◌, ◌<◌, nat_lt, Bool, true, false, if◌then◌else◌, List, length, take, drop, Option, None, Some, unwrap_or, IfSome, min, subst, sym, arith}
use Rattle.std.proofs.lemmas.List.{take-append-drop}
use Rattle.std.specs.Option.{option_or}
use Rattle.textarea_text.specs.Between.{clip}
use Rattle.textarea_text.specs.Nearest.{greatest_below, least_below, passing}
use Rattle.textarea_text.specs.Paragraphs.{next_paragraph_start, previous_paragraph_start}
use Rattle.textarea_text.specs.Place.{Place, IsPlace, IsPlaceOf, end, index_of, last_row, line_end, line_of, place_of}
use Rattle.textarea_text.specs.Text.{Symbol, lines}
use Rattle.textarea_text.specs.Words.{next_word_last, next_word_start, previous_word_start}
use Rattle.textarea_text.proofs.TextPlaces.{IsPlace-end}
use Rattle.textarea_data.specs.declared.cursor.CursorMove.{CursorMove}
use Rattle.textarea_data.specs.declared.cursor.CursorMove.TheVariants as move
use Rattle.textarea_wrap.specs.RowsView.{RowsView}
use Rattle.textarea_screen_map.specs.BorrowedLines.{BorrowedRows}
use Rattle.textarea_screen_map.specs.LineRows.{AreRowsOf}
use Rattle.textarea_screen_map.specs.VisualPositions.{IsPlaceAt, IsPlaceNear}
use Rattle.textarea_screen_map.specs.VisualRows.{greatest_column, row_at}
use Rattle.textarea_screen_map.specs.declared.layout.VisualPosition.{VisualPosition}
use Rattle.textarea_screen_map.specs.declared.layout.Wrapping.{Wrapping}
use Rattle.textarea_lines.specs.TextLayout.{wrapping_of}
use Rattle.textarea_view.specs.Viewport.{ViewportState}
use Rattle.textarea_document.specs.DocumentRows.{IsAboveCursor, IsBelowCursor, text_and_layout}
use Rattle.textarea_document.specs.DocumentState.{DocumentState}
use Rattle.textarea_document.specs.Target.{IsDocumentTarget, first_word_end, is_later_word_row, next_head, next_word_row, place_or, previous_end, target, word_back, word_end, word_forward}
use Rattle.tui_textarea.specs.Hit.{IsNearestVisible, IsReached}
use Rattle.tui_textarea.specs.Moves.{IsTarget}
use Rattle.tui_textarea.specs.State.{State}
use Rattle.tui_textarea.proofs.DrawnRows.{borrowed_right}
use Rattle.tui_textarea.proofs.Removing.{below, some_number}
use Rattle.tui_textarea.proofs.Cases.{by_test}
use Rattle.textarea_lines.proofs.Stores.{tab_len_of}

-- the law of the map: a visual row and a display column lead to a position of the lines
abbrev pub LeadsToPlaces : Type 0
LeadsToPlaces = (wrapping : Wrapping) (lines : List (List ℕ)) (rows : List RowsView) (visual : VisualPosition) (place : Place) → AreRowsOf wrapping lines rows → IsPlaceAt wrapping.tab_len lines rows visual place → IsPlaceOf lines place

-- ---- indices

further : (n : ℕ) (found : Option ℕ) → IfSome found (λ e. e < n) → IfSome found (λ e. e < suc n)
further n None h = tt
further n (Some e) h = omega (arith, h)

passing_within : (n : ℕ) (b : Bool) (found : Option ℕ) → IfSome (if b then Some n else None) (λ e. e < suc n)
passing_within n true found = omega arith
passing_within n false found = tt

or_within : (n : ℕ) (one other : Option ℕ) → IfSome one (λ e. e < n) → IfSome other (λ e. e < n) → IfSome (option_or one other) (λ e. e < n)
or_within n None other h k = k
or_within n (Some e) other h k = h

pub least_within : (test : ℕ → Bool) (n : ℕ) → IfSome (least_below test n) (λ e. e < n)
least_within test zero = tt
least_within test (suc n) =
    or_within (suc n) (least_below test n) (passing test n) (further n (least_below test n) (least_within test n)) (passing_within n (test n) None)

pub greatest_within : (test : ℕ → Bool) (n : ℕ) → IfSome (greatest_below test n) (λ e. e < n)
greatest_within test zero = tt
greatest_within test (suc n) =
    or_within (suc n) (passing test n) (greatest_below test n) (passing_within n (test n) None) (further n (greatest_below test n) (greatest_within test n))

-- ---- positions of lines

-- the nearest position, if there is a line
pub clip_is_place : (rows : List (List ℕ)) (place : Place) → 0 < length rows → IsPlaceOf rows (clip rows place)
clip_is_place rows place some = (omega (arith, some), omega arith)

-- an index as a position
pub index_is_place : (text : List Symbol) (index : ℕ) → IsPlace text (place_of text index)
index_is_place text index =
    subst (λ t. IsPlace t (end (0, 0) (take index text))) (take-append-drop index text) (IsPlace-end (take index text) (drop index text))

line_end_is_place : (rows : List (List ℕ)) (row : ℕ) → row < length rows → IsPlaceOf rows (line_end rows row)
line_end_is_place rows row within = (within, omega arith)

found_or : (rows : List (List ℕ)) (found : Option ℕ) (row : ℕ) (other : Place) → row < length rows → IfSome found (λ column. column < length (line_of rows row)) → IsPlaceOf rows other → IsPlaceOf rows (place_or found row other)
found_or rows None row other within h k = k
found_or rows (Some column) row other within h k = (within, omega (arith, h))

-- ---- moves in a line and by words

word_forward_is_place : (rows : List (List ℕ)) (place : Place) → IsPlaceOf rows place → IsPlaceOf rows (word_forward rows place)
word_forward_is_place rows place h =
    found_or rows (next_word_start (line_of rows place.0) place.1) place.0 (next_head rows place.0) h.0 (least_within _ (length (line_of rows place.0)))
    (by_test (IsPlaceOf rows) (nat_lt (place.0 + 1) (length rows)) _ _
    (λ later. (below (place.0 + 1) (length rows) later, omega arith))
    (λ last. line_end_is_place rows place.0 h.0))

first_end_is_place : (rows : List (List ℕ)) (found : Option ℕ) → 0 < length rows → IfSome found (λ row. row < length rows) → IsPlaceOf rows (first_word_end rows found)
first_end_is_place rows None some h = line_end_is_place rows (last_row rows) (omega (arith, some))
first_end_is_place rows (Some row) some h =
    found_or rows (next_word_last (line_of rows row) 0) row (line_end rows (last_row rows)) h (least_within _ (length (line_of rows row)))
    (line_end_is_place rows (last_row rows) (omega (arith, some)))

word_end_is_place : (rows : List (List ℕ)) (place : Place) → IsPlaceOf rows place → IsPlaceOf rows (word_end rows place)
word_end_is_place rows place h =
    found_or rows (next_word_last (line_of rows place.0) (place.1 + 1)) place.0 (first_word_end rows (next_word_row rows place.0)) h.0 (least_within _ (length (line_of rows place.0)))
    (first_end_is_place rows (next_word_row rows place.0) (omega (arith, h.0)) (least_within (is_later_word_row rows place.0) (length rows)))

word_back_is_place : (rows : List (List ℕ)) (place : Place) → IsPlaceOf rows place → IsPlaceOf rows (word_back rows place)
word_back_is_place rows place h =
    found_or rows (previous_word_start (line_of rows place.0) place.1) place.0 (previous_end rows place.0) h.0 (greatest_within _ (length (line_of rows place.0)))
    (by_test (IsPlaceOf rows) (place.0 == 0) _ _
    (λ first. (omega (arith, h.0), omega arith))
    (λ later. line_end_is_place rows (place.0 - 1) (omega (arith, h.0, some_number place.0 later))))

-- ---- moves that depend only on the text and the cursor

abbrev IsFoundIn : List Symbol → Option Place → Type 0
IsFoundIn text found = IfSome found (IsPlace text)

text_target_is_place : (text : List Symbol) (cursor : Place) (cursor_move : CursorMove) → IsPlace text cursor → IsFoundIn text (target text cursor cursor_move)
text_target_is_place text cursor move.Forward h =
    by_test (IsFoundIn text) (nat_lt (index_of text cursor) (length text)) _ _ (λ inside. index_is_place text (index_of text cursor + 1)) (λ at. tt)
text_target_is_place text cursor move.Back h =
    by_test (IsFoundIn text) (index_of text cursor == 0) _ _ (λ at. tt) (λ inside. index_is_place text (index_of text cursor - 1))
text_target_is_place text cursor move.Head h = (h.0, omega arith)
text_target_is_place text cursor move.End h = line_end_is_place (lines text) cursor.0 h.0
text_target_is_place text cursor move.Top h = clip_is_place (lines text) (0, cursor.1) (omega (arith, h.0))
text_target_is_place text cursor move.Bottom h = clip_is_place (lines text) (last_row (lines text), cursor.1) (omega (arith, h.0))
text_target_is_place text cursor move.WordForward h = word_forward_is_place (lines text) cursor h
text_target_is_place text cursor move.WordEnd h = word_end_is_place (lines text) cursor h
text_target_is_place text cursor move.WordBack h = word_back_is_place (lines text) cursor h
text_target_is_place text cursor move.ParagraphForward h =
    clip_is_place (lines text) (unwrap_or (next_paragraph_start (lines text) cursor.0) (last_row (lines text)), cursor.1) (omega (arith, h.0))
text_target_is_place text cursor move.ParagraphBack h =
    by_test (IsFoundIn text) (cursor.0 == 0) _ _ (λ first. tt)
    (λ later. clip_is_place (lines text) (unwrap_or (previous_paragraph_start (lines text) cursor.0) 0, cursor.1) (omega (arith, h.0)))
text_target_is_place text cursor (move.Jump row column) h = clip_is_place (lines text) (row, column) (omega (arith, h.0))
text_target_is_place text cursor cursor_move h = tt

-- ---- moves that depend on the visual rows

module _ (leads : LeadsToPlaces) where
  near_is_place : (wrapping : Wrapping) (lines : List (List ℕ)) (rows : List RowsView) (visual : VisualPosition) (place : Place) → AreRowsOf wrapping lines rows → IsPlaceNear wrapping.tab_len lines rows visual place → IsPlaceOf lines place
  near_is_place wrapping lines rows visual place right near =
      leads wrapping lines rows (record visual { column = min visual.column (greatest_column wrapping.tab_len (row_at lines rows visual.row)) }) place right near

  -- the same in the layout of a document
  near_in_document : (document : DocumentState) (rows : List RowsView) (visual : VisualPosition) (place : Place)
      → AreRowsOf (wrapping_of (text_and_layout document)) (lines document.text) rows
      → IsPlaceNear document.layout.settings.tab_len (lines document.text) rows visual place → IsPlace document.text place
  near_in_document document rows visual place right near =
      near_is_place (wrapping_of (text_and_layout document)) (lines document.text) rows visual place right
      (subst (λ (t : ℕ). IsPlaceNear t (lines document.text) rows visual place) (sym (tab_len_of document.layout.settings (length (lines document.text)))) near)

  above_is_place : (document : DocumentState) (found : Option Place) → IsAboveCursor document found → IsFoundIn document.text found
  unfolding IsAboveCursor
  above_is_place document None h = tt
  above_is_place document (Some place) h = near_in_document document h.0 (record h.2.visual { row = h.2.visual.row - 1 }) place h.1.text_layout h.2.near

  below_is_place : (document : DocumentState) (found : Option Place) → IsBelowCursor document found → IsFoundIn document.text found
  unfolding IsBelowCursor
  below_is_place document None h = tt
  below_is_place document (Some place) h = near_in_document document h.0 (record h.2.visual { row = h.2.visual.row + 1 }) place h.1.text_layout h.2.near

  reached_is_place : (document : DocumentState) (b : Bool) (rows : BorrowedRows) (wanted : VisualPosition) (place : Place)
      → AreRowsOf rows.wrapping rows.lines rows.rows → rows.lines ≡ lines document.text → IsPlace document.text document.cursor
      → IsReached b rows wanted document.cursor place → IsPlace document.text place
  reached_is_place document true rows wanted place right same h k = subst (IsPlace document.text) (sym k) h
  reached_is_place document false rows wanted place right same h k =
      subst (λ (l : List (List ℕ)). IsPlaceOf l place) same (near_is_place rows.wrapping rows.lines rows.rows wanted place right k)

  pub nearest_is_place : (document : DocumentState) (viewport : ViewportState) (place : Place) → IsPlace document.text document.cursor → IsNearestVisible document viewport place → IsPlace document.text place
  nearest_is_place document viewport place h k =
      reached_is_place document _ k.rows _ place (borrowed_right (text_and_layout document) k.rows k.rows_are) k.rows_are.lines h k.place_is

  document_target_is_place : (document : DocumentState) (cursor_move : CursorMove) (found : Option Place) → IsPlace document.text document.cursor → IsDocumentTarget document cursor_move found → IsFoundIn document.text found
  document_target_is_place document move.Up found h k = above_is_place document found k
  document_target_is_place document move.Down found h k = below_is_place document found k
  document_target_is_place document other found h k =
      subst (IsFoundIn document.text) (sym k) (text_target_is_place document.text document.cursor other h)

  pub target_is_place : (state : State) (cursor_move : CursorMove) (found : Option Place) → IsPlace state.document.text state.document.cursor → IsTarget state cursor_move found → IsFoundIn state.document.text found
  target_is_place state move.InViewport found h k =
      subst (IsFoundIn state.document.text) (sym k.1) (nearest_is_place state.document state.drawing.viewport k.0 h k.2)
  target_is_place state other found h k = document_target_is_place state.document other found h k
