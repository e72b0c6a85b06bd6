-- The state after a call that first removes the selected text.
use Rattle.std.proofs.Common.{◌≡◌, ◌||◌, Bool, true, false, Option, None, Some, is_some, Result, Ok, Err, ap, inr, refl, sym, ◌∙◌}
use Rattle.std.proofs.lemmas.Bool.{cond-false, cond-true, or_left, or_parts, or_right, true≢false}
use Rattle.std.proofs.lemmas.Result.{IfOk-weaker, on_ok_weaker}
use Rattle.std.specs.Result.{IfOk, OnErr, OnOk}
use Rattle.textarea_data.specs.declared.range.AtomicCursorBias.TheVariants.{Forward}
use Rattle.textarea_data.specs.declared.range.AtomicRange.{AtomicRange}
use Rattle.textarea_data.specs.declared.range.AtomicDeleteDirection.{AtomicDeleteDirection}
use Rattle.textarea_document.specs.Edits.{range_at_cursor}
use Rattle.textarea_document.specs.Selection.{is_selected, selected_removed}
use Rattle.textarea_document.specs.DocumentState.{DocumentState}
use Rattle.tui_textarea.specs.Removals.{cursor_range_removed_or, removes_or, unselected_or}
use Rattle.tui_textarea.specs.Selection.{IsInsertOutOfMemory, unselected}
use Rattle.tui_textarea.specs.Units.{settled}
use Rattle.tui_textarea.specs.State.{State, with_document}
use Rattle.textarea_util.proofs.Options.{none_of_test}

pub unselected_is : {view state : State} → view ≡ state → (removed : DocumentState) → removed ≡ selected_removed view.document view.time
    → with_document view removed ≡ unselected state
unselected_is {view} is removed gone = ap (with_document view) gone ∙ ap unselected is

-- after the settling, if the insertion into the remaining text ran out of memory
pub left_settled : {T E : Type 0} (r : Result T E) {view state last : State} → view ≡ state → (removed new : DocumentState)
    → removed ≡ selected_removed view.document view.time → OnErr r (new ≡ removed) → last ≡ settled Forward (with_document view new)
    → OnErr r (IsInsertOutOfMemory state last)
left_settled (Ok x) is removed new gone h last_is = h
left_settled (Err e) {view} is removed new gone h last_is =
    inr (last_is ∙ ap (λ (d : DocumentState). settled Forward (with_document view d)) h ∙ ap (settled Forward) (unselected_is is removed gone))

-- if text is selected, only that is removed
pub selected_gone : {view state : State} → view ≡ state → (removed : DocumentState) → removed ≡ selected_removed view.document view.time
    → is_selected view.document ≡ true → (other : State) → with_document view removed ≡ unselected_or state other
selected_gone {view} {state} is removed gone some other =
    unselected_is is removed gone
    ∙ sym (cond-true (is_selected state.document) (unselected state) other (ap (λ (s : State). is_selected s.document) (sym is) ∙ some))

-- if none is, nothing is removed
pub none_gone : {view state : State} → view ≡ state → (removed : DocumentState) → removed ≡ selected_removed view.document view.time
    → is_selected view.document ≡ false → with_document view removed ≡ state
none_gone {view} is removed gone none = ap (with_document view) (gone ∙ cond-false (is_selected view.document) _ view.document none) ∙ is

-- the state after a removal where none is selected
pub else_unselected : (made : State → State) {view state : State} → view ≡ state → (removed : DocumentState) (new : State)
    → removed ≡ selected_removed view.document view.time → is_selected view.document ≡ false
    → new ≡ made (with_document view removed) → new ≡ unselected_or state (made state)
else_unselected made {view} {state} is removed new gone none h =
    h ∙ ap made (none_gone is removed gone none)
    ∙ sym (cond-false (is_selected state.document) (unselected state) (made state) (ap (λ (s : State). is_selected s.document) (sym is) ∙ none))

-- the document after the call, if it succeeds
pub made_unselected : {T E : Type 0} (r : Result T E) (made : State → DocumentState) {view state : State} → view ≡ state → (removed new : DocumentState)
    → removed ≡ selected_removed view.document view.time → is_selected view.document ≡ false
    → OnOk r (new ≡ made (with_document view removed)) → OnOk r (with_document view new ≡ unselected_or state (with_document state (made state)))
made_unselected (Ok x) made {view} {state} is removed new gone none h =
    ap (with_document view) (h ∙ ap made (none_gone is removed gone none))
    ∙ ap (λ (s : State). with_document s (made state)) is
    ∙ sym (cond-false (is_selected state.document) (unselected state) (with_document state (made state)) (ap (λ (s : State). is_selected s.document) (sym is) ∙ none))
made_unselected (Err e) made is removed new gone none h = h

-- the same for the state after a call of the text area
pub then_unselected : {T E : Type 0} (r : Result T E) (made : State → State) {view state : State} → view ≡ state → (removed : DocumentState) (new : State)
    → removed ≡ selected_removed view.document view.time → is_selected view.document ≡ false
    → OnOk r (new ≡ made (with_document view removed)) → OnOk r (new ≡ unselected_or state (made state))
then_unselected (Ok x) made is removed new gone none h = else_unselected made is removed new gone none h
then_unselected (Err e) made is removed new gone none h = h

-- the call's result
pub answered_unselected : {E : Type 0} (r : Result Bool E) (has : State → Bool) {view state : State} → view ≡ state → (removed : DocumentState)
    → removed ≡ selected_removed view.document view.time → is_selected view.document ≡ false
    → IfOk r (λ found. found ≡ has (with_document view removed)) → IfOk r (λ found. found ≡ removes_or state (has state))
answered_unselected (Ok found) has {view} {state} is removed gone none h =
    h ∙ ap has (none_gone is removed gone none) ∙ ap (λ (b : Bool). b || has state) (sym (ap (λ (s : State). is_selected s.document) (sym is) ∙ none))
answered_unselected (Err e) has is removed gone none h = h

-- a range that was there is removed, whatever is removed otherwise
hit_removed : (found : Option AtomicRange) (state new other : State) → is_some found ≡ true → new ≡ cursor_range_removed_or found state state
    → new ≡ cursor_range_removed_or found state other
hit_removed None state new other some h = absurd (true≢false (sym some))
hit_removed (Some range) state new other some h = h

-- without one the state stays, and the other removal is made
unhit_stays : (found : Option AtomicRange) (state new : State) → is_some found ≡ false → new ≡ cursor_range_removed_or found state state → new ≡ state
unhit_stays None state new none h = h
unhit_stays (Some range) state new none h = absurd (true≢false none)

unhit_removed : (found : Option AtomicRange) (state other : State) → is_some found ≡ false → other ≡ cursor_range_removed_or found state other
unhit_removed None state other none = refl
unhit_removed (Some range) state other none = absurd (true≢false none)

-- if nothing was selected, and then a range at the cursor was removed
pub range_gone : (other : State → State) (direction : AtomicDeleteDirection) {view state : State} → view ≡ state → (removed : DocumentState) (new : State)
    → removed ≡ selected_removed view.document view.time → is_selected view.document ≡ false → is_some (range_at_cursor removed direction) ≡ true
    → new ≡ cursor_range_removed_or (range_at_cursor removed direction) (with_document view removed) (with_document view removed)
    → new ≡ unselected_or state (cursor_range_removed_or (range_at_cursor state.document direction) state (other state))
range_gone other direction {view} is removed new gone none some h =
    let left = with_document view removed in
    else_unselected (λ (s : State). cursor_range_removed_or (range_at_cursor s.document direction) s (other s)) is removed new gone none
    (hit_removed (range_at_cursor removed direction) left new (other left) some h)

-- if nothing was selected, and no range was at the cursor: the state after the other removal
pub other_gone : {T E : Type 0} (r : Result T E) (other : State → State) (direction : AtomicDeleteDirection) {view state : State} → view ≡ state
    → (removed : DocumentState) (after new : State) → removed ≡ selected_removed view.document view.time → is_selected view.document ≡ false
    → is_some (range_at_cursor removed direction) ≡ false
    → after ≡ cursor_range_removed_or (range_at_cursor removed direction) (with_document view removed) (with_document view removed)
    → OnOk r (new ≡ other after) → OnOk r (new ≡ unselected_or state (cursor_range_removed_or (range_at_cursor state.document direction) state (other state)))
other_gone r other direction {view} is removed after new gone none unhit h made =
    let found = range_at_cursor removed direction in
    let left = with_document view removed in
    then_unselected r (λ (s : State). cursor_range_removed_or (range_at_cursor s.document direction) s (other s)) is removed new gone none
    (on_ok_weaker r (λ e. e ∙ ap other (unhit_stays found left after unhit h) ∙ unhit_removed found left (other left) unhit) made)

-- and its result
pub answered_unhit : {E : Type 0} (r : Result Bool E) (has : State → Bool) (direction : AtomicDeleteDirection) {view state : State} → view ≡ state
    → (removed : DocumentState) (after : State) → removed ≡ selected_removed view.document view.time → is_selected view.document ≡ false
    → is_some (range_at_cursor removed direction) ≡ false
    → after ≡ cursor_range_removed_or (range_at_cursor removed direction) (with_document view removed) (with_document view removed) → IfOk r (λ b. b ≡ has after)
    → IfOk r (λ b. b ≡ removes_or state (is_some (range_at_cursor state.document direction) || has state))
answered_unhit r has direction {view} is removed after gone none unhit h made =
    let left = with_document view removed in
    answered_unselected r (λ (s : State). is_some (range_at_cursor s.document direction) || has s) is removed gone none
    (IfOk-weaker r (λ b. b ≡ has after) (λ b. b ≡ (is_some (range_at_cursor removed direction) || has left))
    (λ b e. e ∙ ap has (unhit_stays (range_at_cursor removed direction) left after unhit h) ∙ sym (ap (λ (t : Bool). t || has left) unhit)) made)

-- a range that was found at the cursor then is one of the state
range_found : {view state : State} → view ≡ state → (removed : DocumentState) → removed ≡ selected_removed view.document view.time → is_selected view.document ≡ false
    → (direction : AtomicDeleteDirection) → range_at_cursor removed direction ≡ range_at_cursor state.document direction
range_found is removed gone none direction = ap (λ (s : State). range_at_cursor s.document direction) (none_gone is removed gone none)

-- so something is removed if there is a range at the cursor
pub range_removes : {view state : State} → view ≡ state → (removed : DocumentState) → removed ≡ selected_removed view.document view.time → is_selected view.document ≡ false
    → (direction : AtomicDeleteDirection) (found : Option AtomicRange) (other : Bool) → found ≡ range_at_cursor removed direction → is_some found ≡ true
    → true ≡ removes_or state (is_some (range_at_cursor state.document direction) || other)
range_removes {state = state} is removed gone none direction found other found_is some =
    sym (or_right (is_selected state.document) _ (or_left (is_some (range_at_cursor state.document direction)) other
    (ap is_some (sym (found_is ∙ range_found is removed gone none direction)) ∙ some)))

-- there is no range at the cursor if nothing is removed
pub none_at_place : {view state : State} → view ≡ state → (removed : DocumentState) → removed ≡ selected_removed view.document view.time → is_selected view.document ≡ false
    → (direction : AtomicDeleteDirection) (other : Bool) → removes_or state (is_some (range_at_cursor state.document direction) || other) ≡ false
    → range_at_cursor removed direction ≡ None
none_at_place {state = state} is removed gone none direction other stays =
    let hit = range_at_cursor state.document direction in
    range_found is removed gone none direction ∙ none_of_test hit (or_parts (is_some hit) other (or_parts (is_selected state.document) (is_some hit || other) stays).1).0
