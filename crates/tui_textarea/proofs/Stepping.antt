-- The state after an edit is reached by the splices in the definitions, and is sound.
use Rattle.std.proofs.Common.{◌≡◌, ℕ, ◌==◌, ◌<◌, nat_lt, Bool, true, false, if◌then◌else◌, List, [], ◌∷◌, ◌++◌, length}
use Rattle.std.proofs.Common.{IfSome, Option, None, Some, option_map, ap, refl, subst, ◌∙◌, arith}
use Rattle.textarea_data.specs.declared.cursor.CursorMove.{CursorMove}
use Rattle.textarea_data.specs.declared.range.AtomicCursorBias.TheVariants.{Forward as BiasForward}
use Rattle.textarea_data.specs.declared.range.AtomicDeleteDirection.{AtomicDeleteDirection}
use Rattle.textarea_data.specs.declared.range.AtomicDeleteDirection.TheVariants.{Backward, Forward}
use Rattle.textarea_data.specs.declared.range.AtomicRange.{AtomicRange}
use Rattle.textarea_ranges.specs.Lookup.{moved_out, range_end, range_start}
use Rattle.textarea_text.specs.Between.{clip}
use Rattle.textarea_text.specs.Place.{Place}
use Rattle.textarea_text.specs.Splice.{Fits, Splice}
use Rattle.textarea_text.specs.Text.{Symbol, Break, Character, lines}
use Rattle.textarea_document.specs.DocumentState.{DocumentState}
use Rattle.textarea_document.specs.Edits.{Insert, HasEffect, Remove, RemoveBefore, RemoveAfter, RemoveBreak, EditStep, splice_of_step, stepped}
use Rattle.textarea_document.specs.Edits.{between_removed, break_removed, removed_after, removed_before, removed_range_or, symbol_removed_after, symbol_removed_before}
use Rattle.textarea_document.specs.Edits.{cursor_index, has_symbols, is_at_end, is_at_start, nothing_inserted, range_after, range_at_cursor, range_before, symbols_inserted}
use Rattle.textarea_document.specs.Outcomes.{after_edit, unanchored}
use Rattle.textarea_document.specs.Ranges.{SplitsNoRange}
use Rattle.textarea_document.specs.Selection.{is_selected, selected_removed, selection_end, selection_start}
use Rattle.textarea_document.specs.Sound.{IsSound}
use Rattle.textarea_document.specs.Splices.{after_splices, before_splices, break_splices, insertion_splices, range_splices_or}
use Rattle.textarea_document.specs.Splices.{removal_splices, selected_splices}
use Rattle.textarea_document.specs.Target.{word_end_after, word_start_before}
use Rattle.textarea_document.proofs.Sounds.{sound_edited, sound_forgotten}
use Rattle.textarea_document.proofs.StepLaw.{step_keeps}
use Rattle.tui_textarea.specs.Edits.{breaks_line, char_inserted, char_or_break_inserted, fitting_spaces, line_broken, newline_inserted, str_inserted, symbols_or_none_inserted}
use Rattle.tui_textarea.specs.Edits.{tab_inserted, tab_or_spaces_inserted, typed_character_inserted}
use Rattle.tui_textarea.specs.Grouping.{call_begun, call_ended}
use Rattle.tui_textarea.specs.Guards.{has_several_lines, made_single, single_line_set}
use Rattle.tui_textarea.specs.LayoutCalls.{tab_length}
use Rattle.tui_textarea.specs.Moves.{IsMovedWith, after_move_by, bias_of, pushed}
use Rattle.tui_textarea.specs.Ranges.{atomic_range_removed, whole_range_removed}
use Rattle.tui_textarea.specs.Removals.{back_to_word_removed, cursor_line, cursor_range_removed_or, in_line, index_ahead, is_at_line_end, on_to_word_end_removed, removed_from, removed_up_to, symbol_after_removed, symbol_before_removed}
use Rattle.tui_textarea.specs.Removals.{line_end_removed, line_head_removed, symbols_ahead_removed, text_cleared, unselected_or, word_after_removed, word_before_removed, yanked}
use Rattle.tui_textarea.specs.Selection.{selection_cancelled, selection_copied, selection_cut, unselected}
use Rattle.tui_textarea.specs.Splices.{ahead_splices, atomic_range_splices, char_splices, clear_splices, line_end_splices, line_head_splices, selected_splices_or, splices_from, splices_up_to, str_splices}
use Rattle.tui_textarea.specs.Splices.{symbol_after_splices, symbol_before_splices, whole_range_splices_or}
use Rattle.tui_textarea.specs.Splices.{tab_splices, word_after_splices, word_before_splices}
use Rattle.tui_textarea.specs.State.{State}
use Rattle.tui_textarea.specs.Units.{earlier_start, later_end, whole_end, whole_start}
use Rattle.tui_textarea.proofs.Cases.{apart, by_both, by_test}
use Rattle.tui_textarea.proofs.Settling.{layout_and_ranges, settled_layout, visible}
use Rattle.tui_textarea.proofs.WholeRemovals.{earlier_made, later_made, removes_from_whole, removes_up_to_whole, removes_whole}
use Rattle.tui_textarea.proofs.Grouping.{char_beside, str_beside, tab_beside}
use Rattle.tui_textarea.proofs.Removing.{ahead_made, range_removal_made, line_end_made, line_head_made, selected_made, whole_made, word_end_made, word_start_made}
use Rattle.tui_textarea.proofs.SoundStates.{clipped, sound_cursor, sound_from, sound_in_group, sound_unanchored}

-- ---- what leaves text, layout and ranges unchanged

move_unchanged : (state : State) (shift : Bool) (found : Option Place)
    → layout_and_ranges (after_move_by state shift found).document ≡ layout_and_ranges state.document
move_unchanged state shift None = refl
move_unchanged state shift (Some place) = refl

pub moves_unchanged : (old new : State) (shift : Bool) (cursor_move : CursorMove) → IsMovedWith old shift cursor_move new
    → layout_and_ranges new.document ≡ layout_and_ranges old.document
moves_unchanged old new shift cursor_move h =
    let found = pushed old.document.ranges cursor_move h.found in
    ap (λ (s : State). layout_and_ranges s.document) h.new_is ∙ settled_layout (bias_of cursor_move) (after_move_by old shift found) ∙ move_unchanged old shift found

-- ---- steps

pub nothing_stays_sound : (document : DocumentState) → IsSound document → IsSound (nothing_inserted document)
nothing_stays_sound document h = sound_unanchored (record document { cursor = moved_out document.ranges document.cursor BiasForward }) (sound_cursor document BiasForward h)

pub some_symbols : (symbols : List Symbol) → has_symbols symbols ≡ true → 0 < length symbols
some_symbols [] e = absurd cc
some_symbols (symbol ∷ symbols) e = omega arith

-- A relation of two documents and the splices between them. No splices relate documents of the same
-- text, layout, ranges and log of changes, if their remembered ranges cover the same or the new one has none; a
-- splice that fits and splits no range relates a document to the one after its edit, whatever its cursor and
-- anchor; and splices compose.
pub record Reckoning (By : DocumentState → List Splice → DocumentState → Type 0) : Type 0 where
  pub none : (old new : DocumentState) → layout_and_ranges new ≡ layout_and_ranges old → By old [] new
  pub same : (old new other : DocumentState) (splices : List Splice) → layout_and_ranges other ≡ layout_and_ranges new → By old splices new → By old splices other
  pub two : (old between new : DocumentState) (first second : List Splice) → By old first between → By between second new → By old (first ++ second) new
  pub one : (document : DocumentState) (splice : Splice) (typed : Bool) (now : ℕ) → IsSound document → Fits document.text splice → SplitsNoRange document.ranges splice
      → By document (splice ∷ []) (after_edit document splice typed now)
  pub forgotten : (old new : DocumentState) → visible new ≡ visible old → new.past_ranges.before ≡ [] → By old [] new

module _ (By : DocumentState → List Splice → DocumentState → Type 0) (by : Reckoning By) where
  -- the relation, and that the new document is sound
  abbrev pub Sound : DocumentState → List Splice → DocumentState → Type 0
  Sound old splices new = By old splices new × IsSound new

  -- the same for the documents of two states
  abbrev pub From : State → List Splice → State → Type 0
  From old splices new = Sound old.document splices new.document

  pub kept : (old new : DocumentState) → layout_and_ranges new ≡ layout_and_ranges old → IsSound new → Sound old [] new
  kept old new same h = (by.none old new same, h)

  pub edited : (document : DocumentState) (splice : Splice) (typed : Bool) (now : ℕ) → IsSound document → Fits document.text splice
      → SplitsNoRange document.ranges splice → Sound document (splice ∷ []) (after_edit document splice typed now)
  edited document splice typed now h fits whole = (by.one document splice typed now h fits whole, sound_edited document splice typed now h fits)

  -- the document has another cursor and anchor than after these splices
  pub moved : (old new other : DocumentState) (splices : List Splice) → layout_and_ranges other ≡ layout_and_ranges new → IsSound other
      → Sound old splices new → Sound old splices other
  moved old new other splices same h k = (by.same old new other splices same k.0, h)

  step_by : (document : DocumentState) (step : EditStep) (typed : Bool) (now : ℕ) → IsSound document → HasEffect document step
      → Sound document (splice_of_step document step ∷ []) (stepped document step typed now)
  step_by document step typed now h made =
      let keeps = step_keeps document step h made in
      edited document (splice_of_step document step) typed now h keeps.0 keeps.1

  unanchored_by : (document : DocumentState) → IsSound document → Sound document [] (unanchored document)
  unanchored_by document h = kept document (unanchored document) refl (sound_unanchored document h)

  pub between_by : (document : DocumentState) (from to : Place) (now : ℕ) → IsSound document → HasEffect document (Remove from to)
      → Sound document (removal_splices document from to) (between_removed document from to now)
  unfolding between_removed
  between_by document from to now h made = step_by document (Remove from to) false now h made

  -- ---- removals

  range_or_by : (document other : DocumentState) (splices : List Splice) (direction : AtomicDeleteDirection) (found : Option AtomicRange) (now : ℕ)
      → IsSound document → range_at_cursor document direction ≡ found → (found ≡ None → Sound document splices other)
      → Sound document (range_splices_or found document splices) (removed_range_or found document now other)
  range_or_by document other splices direction None now h is k = k refl
  range_or_by document other splices direction (Some range) now h is k =
      between_by document (range_start range) (range_end range) now h (range_removal_made document direction range h is)

  pub before_by : (document : DocumentState) (typed : Bool) (now : ℕ) → IsSound document → Sound document (before_splices document) (removed_before document typed now)
  unfolding removed_before
  before_by document typed now h =
      range_or_by document (symbol_removed_before document typed now) (if is_at_start document then [] else splice_of_step document RemoveBefore ∷ []) Backward
      (range_before document) now h refl
      (λ none. by_both (Sound document) (is_at_start document) _ _ _ _
      (λ at. unanchored_by document h)
      (λ inside. step_by document RemoveBefore typed now h (none, apart (cursor_index document) 0 inside)))

  pub after_by : (document : DocumentState) (typed : Bool) (now : ℕ) → IsSound document → Sound document (after_splices document) (removed_after document typed now)
  unfolding removed_after
  after_by document typed now h =
      range_or_by document (symbol_removed_after document typed now) (if is_at_end document then [] else splice_of_step document RemoveAfter ∷ []) Forward
      (range_after document) now h refl
      (λ none. by_both (Sound document) (is_at_end document) _ _ _ _
      (λ at. unanchored_by document h)
      (λ inside. step_by document RemoveAfter typed now h (none, apart (cursor_index document) (length document.text) inside)))

  pub break_by : (document : DocumentState) (now : ℕ) → IsSound document → Sound document (break_splices document) (break_removed document now)
  break_by document now h =
      by_both (Sound document) (document.cursor.0 == 0) _ _ _ _
      (λ at. unanchored_by document h)
      (λ inside. step_by document RemoveBreak false now h (apart document.cursor.0 0 inside))

  yanked_by : (state : State) (from to : Place) → IsSound state.document → HasEffect state.document (Remove from to)
      → From state (removal_splices state.document from to) (yanked state from to)
  unfolding yanked
  yanked_by state from to h made = between_by state.document from to state.time h made

  pub ahead_by : (state : State) (count : ℕ) → IsSound state.document → From state (ahead_splices state.document count) (symbols_ahead_removed state count)
  ahead_by state count h =
      by_both (From state) (nat_lt (cursor_index state.document) (index_ahead state.document count)) _ _ _ _
      (λ some. yanked_by state _ _ h (ahead_made state.document count h some))
      (λ none. unanchored_by state.document h)

  from_by : (state : State) (found : Option Place) → IsSound state.document → IfSome found (λ start. HasEffect state.document (Remove start state.document.cursor))
      → From state (splices_from found state.document) (removed_from found state)
  from_by state None h made = before_by state.document state.settings.undo_coalescing state.time h
  from_by state (Some start) h made = between_by state.document start state.document.cursor state.time h made

  up_to_by : (state : State) (found : Option Place) → IsSound state.document → IfSome found (λ stop. HasEffect state.document (Remove state.document.cursor stop))
      → From state (splices_up_to found state.document) (removed_up_to found state)
  up_to_by state None h made = after_by state.document state.settings.undo_coalescing state.time h
  up_to_by state (Some stop) h made = between_by state.document state.document.cursor stop state.time h made

  pub symbol_before_by : (state : State) → IsSound state.document → From state (symbol_before_splices state) (symbol_before_removed state)
  symbol_before_by state h = from_by state (earlier_start state) h (earlier_made state h)

  pub symbol_after_by : (state : State) → IsSound state.document → From state (symbol_after_splices state) (symbol_after_removed state)
  symbol_after_by state h = up_to_by state (later_end state) h (later_made state h)

  pub line_end_by : (state : State) → IsSound state.document → From state (line_end_splices state) (line_end_removed state)
  line_end_by state h =
      by_both (From state) (is_at_line_end state.document) _ _ _ _
      (λ at. symbol_after_by state h)
      (λ inside. yanked_by state _ _ h (line_end_made state.document h inside))

  pub line_head_by : (state : State) → IsSound state.document → From state (line_head_splices state.document) (line_head_removed state)
  line_head_by state h =
      by_both (From state) (state.document.cursor.1 == 0) _ _ _ _
      (λ at. break_by state.document state.time h)
      (λ inside. yanked_by state _ _ h (line_head_made state.document h inside))

  back_to_word_by : (state : State) → IsSound state.document
      → From state (if state.document.cursor.1 == 0 then break_splices state.document
      else removal_splices state.document (whole_start state (in_line state.document (word_start_before (cursor_line state.document) state.document.cursor.1))) state.document.cursor)
      (back_to_word_removed state)
  unfolding back_to_word_removed
  back_to_word_by state h =
      by_both (From state) (state.document.cursor.1 == 0) _ _ _ _
      (λ at. break_by state.document state.time h)
      (λ inside. yanked_by state _ _ h (removes_from_whole state _ _ h (word_start_made state.document h inside)))

  on_to_word_end_by : (state : State) → IsSound state.document
      → From state (if is_at_line_end state.document then symbol_after_splices state
      else removal_splices state.document state.document.cursor (whole_end state (in_line state.document (word_end_after (cursor_line state.document) state.document.cursor.1))))
      (on_to_word_end_removed state)
  unfolding on_to_word_end_removed
  on_to_word_end_by state h =
      by_both (From state) (is_at_line_end state.document) _ _ _ _
      (λ at. symbol_after_by state h)
      (λ inside. yanked_by state _ _ h (removes_up_to_whole state _ _ h (word_end_made state.document h inside)))

  range_removed_by : (state other : State) (splices : List Splice) (direction : AtomicDeleteDirection) (found : Option AtomicRange)
      → IsSound state.document → range_at_cursor state.document direction ≡ found → From state splices other
      → From state (whole_range_splices_or found state splices) (cursor_range_removed_or found state other)
  range_removed_by state other splices direction None h is k = k
  range_removed_by state other splices direction (Some range) h is k =
      between_by state.document (whole_start state (range_start range)) (whole_end state (range_end range)) state.time h
      (removes_whole state _ _ h (range_removal_made state.document direction range h is))

  pub word_before_by : (state : State) → IsSound state.document → From state (word_before_splices state) (word_before_removed state)
  word_before_by state h =
      range_removed_by state (back_to_word_removed state) _ Backward (range_before state.document) h refl (back_to_word_by state h)

  pub word_after_by : (state : State) → IsSound state.document → From state (word_after_splices state) (word_after_removed state)
  word_after_by state h =
      range_removed_by state (on_to_word_end_removed state) _ Forward (range_after state.document) h refl (on_to_word_end_by state h)

  pub cleared_by : (state : State) → IsSound state.document → From state (clear_splices state.document) (text_cleared state)
  cleared_by state h =
      by_both (From state) (has_symbols state.document.text) _ _ _ _
      (λ filled. yanked_by state _ _ h (whole_made state.document (some_symbols state.document.text filled)))
      (λ empty. kept state.document state.document refl h)

  range_by : (state : State) (direction : AtomicDeleteDirection) (found : Option AtomicRange) → IsSound state.document
      → range_at_cursor state.document direction ≡ found → Sound state.document (whole_range_splices_or found state []) (whole_range_removed found state)
  range_by state direction None h is = kept state.document state.document refl h
  range_by state direction (Some range) h is =
      let document = state.document in
      let start = whole_start state (range_start range) in
      let stop = whole_end state (range_end range) in
      let left = between_removed document start stop state.time in
      let gone = between_by document start stop state.time h (removes_whole state _ _ h (range_removal_made document direction range h is)) in
      moved document left (whole_range_removed (Some range) state) (removal_splices document start stop) refl
      (sound_from left (option_map (clip (lines left.text)) document.anchor) gone.1 (clipped left.text document.anchor (omega (arith, gone.1.cursor.0)))) gone

  pub cursor_range_by : (state : State) (direction : AtomicDeleteDirection) → IsSound state.document
      → From state (atomic_range_splices state direction) (atomic_range_removed state direction)
  cursor_range_by state direction h =
      range_by state direction (range_at_cursor state.document direction) h refl

  -- ---- over a selection

  pub selected_by : (document : DocumentState) (now : ℕ) → IsSound document → Sound document (selected_splices document) (selected_removed document now)
  selected_by document now h =
      by_both (Sound document) (is_selected document) _ _ _ _
      (λ selected. between_by document (selection_start document) (selection_end document) now h (selected_made document h selected))
      (λ none. kept document document refl h)

  pub unselected_by : (state other : State) (splices : List Splice) → IsSound state.document → From state splices other
      → From state (selected_splices_or state.document splices) (unselected_or state other)
  unselected_by state other splices h k =
      by_both (From state) (is_selected state.document) _ _ _ _ (λ selected. selected_by state.document state.time h) (λ none. k)

  pub cut_by : (state : State) → IsSound state.document → From state (selected_splices state.document) (selection_cut state)
  cut_by state h =
      by_test (From state (selected_splices state.document)) (is_selected state.document) _ _
      (λ selected. selected_by state.document state.time h)
      (λ none. moved state.document (unselected state).document (unanchored state.document) (selected_splices state.document)
      (by_test (λ (d : DocumentState). layout_and_ranges (unanchored state.document) ≡ layout_and_ranges d) (is_selected state.document) _ _
      (λ selected. absurd (cc (selected, none))) (λ free. refl))
      (sound_unanchored state.document h) (selected_by state.document state.time h))

  pub copied_by : (state : State) → IsSound state.document → From state [] (selection_copied state)
  copied_by state h =
      by_test (From state []) (is_selected state.document) _ _ (λ selected. unanchored_by state.document h) (λ none. unanchored_by state.document h)

  -- ---- insertions

  pub symbols_by : (document : DocumentState) (symbols : List Symbol) (now : ℕ) → IsSound document
      → Sound document (insertion_splices document symbols) (symbols_inserted document symbols now)
  symbols_by document [] now h =
      kept document (nothing_inserted document) refl (nothing_stays_sound document h)
  symbols_by document (symbol ∷ symbols) now h = step_by document (Insert (symbol ∷ symbols)) false now h (omega arith)

  after_removal : (state new : State) (splices : List Splice) → IsSound state.document
      → (IsSound (unselected state).document → From (unselected state) splices new) → From state (selected_splices state.document ++ splices) new
  after_removal state new splices h k =
      let gone = selected_by state.document state.time h in
      let after = k gone.1 in
      (by.two state.document (unselected state).document new.document (selected_splices state.document) splices gone.0 after.0, after.1)

  str_replaced : (state : State) (symbols : List Symbol) → IsSound state.document → From state (str_splices state symbols) (symbols_or_none_inserted (unselected state) symbols)
  str_replaced state symbols h =
      after_removal state (symbols_or_none_inserted (unselected state) symbols) _ h (λ left. symbols_by (unselected state).document symbols state.time left)

  newline_replaced : (state : State) → IsSound state.document → From state (str_splices state (Break ∷ [])) (line_broken (unselected state))
  newline_replaced state h =
      after_removal state (line_broken (unselected state)) _ h (λ left. step_by (unselected state).document (Insert (Break ∷ [])) false state.time left (omega arith))

  typed_by : (state : State) (c : ℕ) → IsSound state.document → From state (str_splices state (Character c ∷ [])) (typed_character_inserted (unselected state) c)
  typed_by state c h =
      after_removal state (typed_character_inserted (unselected state) c) _ h
      (λ left. step_by (unselected state).document (Insert (Character c ∷ [])) state.settings.undo_coalescing state.time left (omega arith))

  char_replaced : (state : State) (c : ℕ) → IsSound state.document → From state (char_splices state c) (char_or_break_inserted (unselected state) c)
  char_replaced state c h =
      by_both (From state) (breaks_line c) _ _ _ _ (λ breaks. newline_replaced state h) (λ other. typed_by state c h)

  tab_replaced : (state : State) → IsSound state.document → From state (tab_splices state) (tab_or_spaces_inserted (unselected state) (tab_length state.document))
  tab_replaced state h =
      let left = unselected state in
      let spaces = fitting_spaces left (tab_length state.document) in
      by_both (From state) (tab_length state.document == 0) _ _ _ _
      (λ none. after_removal state (selection_cancelled left) _ h (λ sound. unanchored_by left.document sound))
      (λ some. by_both (From state) left.settings.hard_tab_indent _ _ _ _ (λ hard. typed_by state 9 h) (λ soft. str_replaced state spaces h))

  -- ---- in a single line

  pub single_by : (state : State) (single_line : Bool) → IsSound state.document → From state [] (single_line_set state single_line)
  single_by state false h = kept state.document state.document refl h
  single_by state true h =
      by_test (From state []) (has_several_lines state) state (made_single state)
      (λ several. kept state.document state.document refl h)
      (λ one. (by.forgotten state.document (made_single state).document refl refl, sound_forgotten state.document state.document.log.maximum h))

  -- ---- in a group of their own

  grouped : (state new : State) (splices ungrouped : List Splice) → splices ≡ ungrouped → IsSound state.document
      → (IsSound (call_begun state).document → From (call_begun state) splices new) → From state ungrouped (call_ended state new)
  grouped state new splices ungrouped same h k =
      let begun = (call_begun state).document in
      let after = k (sound_in_group state (call_begun state).document.log.group h) in
      let ended = call_ended state new in
      subst (λ (s : List Splice). From state s ended) same
      (moved state.document new.document ended.document splices refl (sound_in_group new ended.document.log.group after.1)
      (by.two state.document begun new.document [] splices (by.none state.document begun refl) after.0, after.1))

  pub str_by : (state : State) (symbols : List Symbol) → IsSound state.document → From state (str_splices state symbols) (str_inserted state symbols)
  str_by state symbols h =
      grouped state (symbols_or_none_inserted (unselected (call_begun state)) symbols) _ _ (str_beside state symbols) h (λ begun. str_replaced (call_begun state) symbols begun)

  pub newline_by : (state : State) → IsSound state.document → From state (str_splices state (Break ∷ [])) (newline_inserted state)
  newline_by state h =
      grouped state (line_broken (unselected (call_begun state))) _ _ (str_beside state (Break ∷ [])) h (λ begun. newline_replaced (call_begun state) begun)

  pub char_by : (state : State) (c : ℕ) → IsSound state.document → From state (char_splices state c) (char_inserted state c)
  char_by state c h =
      grouped state (char_or_break_inserted (unselected (call_begun state)) c) _ _ (char_beside state c) h (λ begun. char_replaced (call_begun state) c begun)

  pub tab_by : (state : State) → IsSound state.document → From state (tab_splices state) (tab_inserted state)
  tab_by state h =
      grouped state (tab_or_spaces_inserted (unselected (call_begun state)) (tab_length state.document)) _ _ (tab_beside state) h
      (λ begun. tab_replaced (call_begun state) begun)
