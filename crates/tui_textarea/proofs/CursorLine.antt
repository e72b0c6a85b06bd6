-- The cursor's line of the state, as a call reads it from the state's view.
use Rattle.std.proofs.Common.{◌≡◌, ◌≢◌, ◌==◌, ◌<◌, ◌||◌, ℕ, Bool, List, Result, true, false, not, length, ap, sym, ◌∙◌, arith}
use Rattle.std.specs.Result.{IfOk}
use Rattle.std.proofs.lemmas.Bool.{eq-eqb, ne_eqb, or_left, or_right}
use Rattle.std.proofs.lemmas.Result.{IfOk-weaker}
use Rattle.textarea_text.specs.Text.{Symbol, lines}
use Rattle.textarea_text.specs.Place.{IsPlace, Place, index_of, line_end, line_of, row_start}
use Rattle.textarea_document.specs.Selection.{is_selected, selected_removed}
use Rattle.textarea_document.specs.DocumentState.{DocumentState}
use Rattle.tui_textarea.specs.Removals.{cursor_line, has_after, has_line_after, is_at_line_end, removes_or}
use Rattle.tui_textarea.specs.State.{State, with_document}
use Rattle.tui_textarea.proofs.Unselected.{answered_unselected, none_gone}

-- the position that was read is the state's cursor
pub cursor_read : {view state : State} → view ≡ state → (place : Place) → place ≡ view.document.cursor → place ≡ state.document.cursor
cursor_read is place at = at ∙ ap (λ (s : State). s.document.cursor) is

-- the row's line is that of the cursor
row_read : {view state : State} → view ≡ state → (rows : List (List ℕ)) (place : Place) → rows ≡ lines view.document.text → place ≡ view.document.cursor
    → line_of rows place.0 ≡ cursor_line state.document
row_read {view} is rows place rows_are at =
    ap (λ (r : List (List ℕ)). line_of r place.0) rows_are ∙ ap (λ (p : Place). line_of (lines view.document.text) p.0) at
    ∙ ap (λ (s : State). cursor_line s.document) is

-- the end of its line is given by its length
end_read : {view state : State} → view ≡ state → (rows : List (List ℕ)) (place stop : Place) → rows ≡ lines view.document.text → place ≡ view.document.cursor
    → stop ≡ line_end rows place.0 → stop.1 ≡ length (cursor_line state.document)
end_read is rows place stop rows_are at stop_is = ap (λ (p : Place). p.1) stop_is ∙ ap length (row_read is rows place rows_are at)

-- the cursor is there exactly if the columns are equal
at_end_read : {view state : State} → view ≡ state → (rows : List (List ℕ)) (place stop : Place) → rows ≡ lines view.document.text → place ≡ view.document.cursor
    → stop ≡ line_end rows place.0 → place.1 ≡ stop.1 → is_at_line_end state.document ≡ true
at_end_read {state = state} is rows place stop rows_are at stop_is same =
    ap (λ (p : Place). p.1 == length (cursor_line state.document)) (sym (cursor_read is place at))
    ∙ eq-eqb place.1 (length (cursor_line state.document)) (same ∙ end_read is rows place stop rows_are at stop_is)

inside_read : {view state : State} → view ≡ state → (rows : List (List ℕ)) (place stop : Place) → rows ≡ lines view.document.text → place ≡ view.document.cursor
    → stop ≡ line_end rows place.0 → place.1 ≢ stop.1 → is_at_line_end state.document ≡ false
inside_read {state = state} is rows place stop rows_are at stop_is apart =
    ap (λ (p : Place). p.1 == length (cursor_line state.document)) (sym (cursor_read is place at))
    ∙ ne_eqb place.1 (length (cursor_line state.document)) (λ e. apart (e ∙ sym (end_read is rows place stop rows_are at stop_is)))

-- elsewhere its line's end is after it
pub end_after : (text : List Symbol) (rows : List (List ℕ)) (place stop : Place) → rows ≡ lines text → IsPlace text place → stop ≡ line_end rows place.0 → place.1 ≢ stop.1
    → index_of text place < index_of text stop
end_after text rows place stop rows_are is_place stop_is apart =
    let row : stop.0 ≡ place.0 = ap (λ (p : Place). p.0) stop_is in
    let column : stop.1 ≡ length (line_of (lines text) place.0) = ap (λ (p : Place). p.1) stop_is ∙ ap (λ (r : List (List ℕ)). length (line_of r place.0)) rows_are in
    omega (arith, ap (row_start text) row, column, is_place.1, apart)

-- so there is something to remove
line_removes : (state : State) → is_at_line_end state.document ≡ false → true ≡ removes_or state (has_line_after state)
line_removes state inside =
    sym (or_right (is_selected state.document) _ (or_left (not (is_at_line_end state.document)) (has_after state) (ap not inside)))

-- the same after the removal of the selected text, if none is selected
pub line_removes_unselected : {view state : State} → view ≡ state → (removed : DocumentState) → removed ≡ selected_removed view.document view.time → is_selected view.document ≡ false
    → (rows : List (List ℕ)) (place stop : Place) → rows ≡ lines removed.text → place ≡ removed.cursor → stop ≡ line_end rows place.0 → place.1 ≢ stop.1
    → true ≡ removes_or state (has_line_after state)
line_removes_unselected {state = state} is removed gone none rows place stop rows_are at stop_is apart =
    line_removes state (inside_read (none_gone is removed gone none) rows place stop rows_are at stop_is apart)

-- at the line's end the symbol after the cursor is removed, if there is one
pub answered_at_end : {E : Type 0} (r : Result Bool E) {view state : State} → view ≡ state → (removed : DocumentState) → removed ≡ selected_removed view.document view.time
    → is_selected view.document ≡ false → (rows : List (List ℕ)) (place stop : Place) → rows ≡ lines removed.text → place ≡ removed.cursor → stop ≡ line_end rows place.0
    → place.1 ≡ stop.1 → IfOk r (λ found. found ≡ has_after (with_document view removed)) → IfOk r (λ found. found ≡ removes_or state (has_line_after state))
answered_at_end r {state = state} is removed gone none rows place stop rows_are at stop_is same h =
    IfOk-weaker r (λ b. b ≡ removes_or state (has_after state)) (λ b. b ≡ removes_or state (has_line_after state))
    (λ b e. e ∙ ap (λ (t : Bool). removes_or state (not t || has_after state)) (sym (at_end_read (none_gone is removed gone none) rows place stop rows_are at stop_is same)))
    (answered_unselected r has_after is removed gone none h)
