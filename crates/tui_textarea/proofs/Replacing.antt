-- Replacements lead by their splices to sound documents.
use Rattle.std.proofs.Common.{◌≡◌, ◌<◌, ℕ, ◌+◌, ◌-◌, ◌==◌, false, List, [], ◌∷◌, ◌++◌, length, Option, None, Some, option_map, ap, arith, refl, subst, sym, not}
use Rattle.textarea_data.specs.declared.cursor.CursorUnit.{CursorUnit}
use Rattle.textarea_text.specs.Between.{clip}
use Rattle.textarea_text.specs.Place.{IsPlace, Place, is_before, line_end, line_of}
use Rattle.textarea_text.specs.Splice.{Splice}
use Rattle.textarea_text.specs.Text.{Symbol, characters, following, leading, lines}
use Rattle.textarea_history.specs.Groups.{is_open}
use Rattle.textarea_history.specs.Log.{group_ended}
use Rattle.textarea_lines.specs.TextLayout.{Layout}
use Rattle.textarea_search.specs.declared.search.direction.Direction.TheVariants as toward
use Rattle.textarea_search.specs.declared.search.text_matches.TextMatch.{TextMatch}
use Rattle.textarea_document.specs.DocumentState.{DocumentState}
use Rattle.textarea_document.specs.Indenting.{moved_near, shifted_over, shifted_place}
use Rattle.textarea_document.specs.Moving.{has_line_below, line_above_relocated, line_below_relocated, lines_moved_down, lines_moved_up, move_down_splices}
use Rattle.textarea_document.specs.Moving.{move_up_splices, relocated, relocation_splices, row_down, row_up, swapped_down, swapped_up}
use Rattle.textarea_document.specs.Outcomes.{after_move}
use Rattle.textarea_document.specs.Replacing.{ahead_end, ahead_replaced, ahead_start, all_replaced, all_splices, begun, begun_at_start, each_replaced, each_splices, ended_after, range_replaced, range_splices, replaced_in_turn}
use Rattle.textarea_document.specs.Replacing.{stretch_end, stretch_removal, stretch_removed, stretch_replaced, stretch_splices, stretch_start}
use Rattle.textarea_document.specs.Selection.{first_selected_row, last_selected_row}
use Rattle.textarea_document.specs.Sound.{IsSound}
use Rattle.textarea_document.proofs.AtOnce.{sound_replaced}
use Rattle.textarea_document.proofs.Layouts.{all_relaid}
use Rattle.textarea_document.proofs.MovedLines.{ends_above, ends_below}
use Rattle.textarea_document.proofs.Orders.{index_before}
use Rattle.textarea_document.proofs.Replacing.{ends_are_places}
use Rattle.textarea_document.proofs.Sounds.{sound_begun, sound_ended, start_is_place}
use Rattle.tui_textarea.specs.Replacing.{match_replaced_by, match_splices_by, with_range_replaced}
use Rattle.tui_textarea.specs.Search.{after_search, next_match}
use Rattle.tui_textarea.specs.State.{State, with_document}
use Rattle.tui_textarea.specs.WholeMatches.{end_of_match, is_empty_match, start_of_match}
use Rattle.tui_textarea.proofs.Cases.{by_both, by_test}
use Rattle.tui_textarea.proofs.FoundPlaces.{match_is_place}
use Rattle.tui_textarea.proofs.SoundStates.{clipped, sound_at, sound_from, sound_search}
use Rattle.tui_textarea.proofs.Settling.{begun_unchanged, ended_unchanged, layout_and_ranges}
use Rattle.tui_textarea.proofs.Stepping.{Reckoning, between_by, kept, moved, symbols_by}
use Rattle.tui_textarea.proofs.Targets.{clip_is_place, index_is_place}

-- a search leaves text, layout and ranges unchanged
pub search_unchanged : (state : State) (found : Option Place) → layout_and_ranges (after_search state found).document ≡ layout_and_ranges state.document
search_unchanged state None = refl
search_unchanged state (Some place) = refl

-- without matches nothing changes
pub nothing_replaced : (state : State) (symbols : List Symbol) (stretches : List (ℕ × ℕ)) → stretches ≡ []
    → state ≡ with_document state (all_replaced state.document stretches symbols state.time)
unfolding all_replaced
nothing_replaced state symbols stretches none =
    ap (λ (s : List (ℕ × ℕ)). with_document state (all_replaced state.document s symbols state.time)) (sym none)

-- the ends of the text between two positions
pub stretch_is : (document : DocumentState) (from to : Place) → IsSound document
    → IsPlace document.text (stretch_start document.text from to) × IsPlace document.text (stretch_end document.text from to)
stretch_is document from to h =
    let rows = lines document.text in
    ends_are_places document.text (clip rows from) (clip rows to) (clip_is_place rows from (omega (arith, h.cursor.0))) (clip_is_place rows to (omega (arith, h.cursor.0)))

-- cursor and anchor move near other positions
sound_near : (after : DocumentState) (cursor : Place) (anchor : Option Place) → IsSound after → IsSound (moved_near after cursor anchor)
sound_near after cursor anchor h =
    let rows = lines after.text in
    let some : 0 < length rows = omega (arith, h.cursor.0) in
    let there = after_move after (clip rows cursor) None in
    sound_from there (option_map (clip rows) anchor) (sound_at after (clip rows cursor) None h (clip_is_place rows cursor some) tt) (clipped after.text anchor some)

-- ---- stretches that are replaced at once

-- A relation of two documents and the splices between them, if stretches are replaced at once. No
-- splices relate a document to itself, and it is the same for documents that are seen as the same.
pub record AtOnce (Once : DocumentState → List Splice → DocumentState → Type 0) : Type 0 where
  pub all : (document : DocumentState) (stretches : List (ℕ × ℕ)) (symbols : List Symbol) (now : ℕ) → IsSound document
      → Once document (all_splices document stretches symbols now) (all_replaced document stretches symbols now)
  pub stays : (document : DocumentState) → IsSound document → Once document [] document
  pub same : (old new other : DocumentState) (splices : List Splice) → layout_and_ranges other ≡ layout_and_ranges new → Once old splices new → Once old splices other

module _ (Once : DocumentState → List Splice → DocumentState → Type 0) (once : AtOnce Once) where
  pub all_once : (document : DocumentState) (stretches : List (ℕ × ℕ)) (symbols : List Symbol) (now : ℕ) → IsSound document
      → Once document (all_splices document stretches symbols now) (all_replaced document stretches symbols now) × IsSound (all_replaced document stretches symbols now)
  all_once document stretches symbols now h = (once.all document stretches symbols now h, sound_replaced document stretches symbols now h)

  -- the starts of lines are replaced
  pub lines_shifted_once : (document : DocumentState) (outdents : Option CursorUnit) (stretches : List (ℕ × ℕ)) (tab : List ℕ) (now : ℕ) → IsSound document
      → Once document (all_splices document stretches (characters tab) now) (shifted_over document outdents stretches tab now) × IsSound (shifted_over document outdents stretches tab now)
  unfolding shifted_over
  lines_shifted_once document outdents [] tab now h = (once.stays document h, h)
  lines_shifted_once document outdents (stretch ∷ rest) tab now h =
      let place = shifted_place document outdents (length tab) in
      let splices = all_splices document (stretch ∷ rest) (characters tab) now in
      let after = all_replaced document (stretch ∷ rest) (characters tab) now in
      let new = moved_near after (place document.cursor) (option_map place document.anchor) in
      let made = all_once document (stretch ∷ rest) (characters tab) now h in
      (once.same document after new splices refl made.0, sound_near after (place document.cursor) (option_map place document.anchor) made.1)

-- ---- one after another

module _ (By : DocumentState → List Splice → DocumentState → Type 0) (by : Reckoning By) where
  abbrev Keeps : DocumentState → List Splice → DocumentState → Type 0
  Keeps old splices new = By old splices new × IsSound new

  -- one after another
  then_by : (old between new : DocumentState) (first second : List Splice) → Keeps old first between → (IsSound between → Keeps between second new)
      → Keeps old (first ++ second) new
  then_by old between new first second h k =
      let after = k h.1 in
      (by.two old between new first second h.0 after.0, after.1)

  -- ---- one replacement

  removed_by : (document : DocumentState) (start stop : Place) (now : ℕ) → IsSound document → IsPlace document.text start → IsPlace document.text stop
      → Keeps document (stretch_removal document start stop) (stretch_removed document start stop now)
  unfolding stretch_removed
  removed_by document start stop now h at to =
      by_both (Keeps document) (is_before start stop) _ _ _ _
      (λ before. between_by By by document start stop now h (at, to, index_before document.text start stop at to before))
      (λ none. kept By by document (after_move document start None) refl (sound_at document start None h at tt))

  replaced_by : (document : DocumentState) (start stop : Place) (symbols : List Symbol) (now : ℕ) → IsSound document → IsPlace document.text start → IsPlace document.text stop
      → Keeps document (stretch_splices document start stop symbols now) (stretch_replaced document start stop symbols now)
  unfolding stretch_splices stretch_replaced
  replaced_by document start stop symbols now h at to =
      then_by document (stretch_removed document start stop now) _ (stretch_removal document start stop) _ (removed_by document start stop now h at to)
      (λ left. symbols_by By by (stretch_removed document start stop now) symbols now left)

  -- ---- in one group

  begun_by : (document : DocumentState) → IsSound document → Keeps document [] (begun document)
  begun_by document h = kept By by document (begun document) (begun_unchanged document) (sound_begun document h)

  ended_by : (before after : DocumentState) (splices : List Splice) → Keeps before splices after → Keeps before splices (ended_after before after)
  ended_by before after splices h =
      by_test (Keeps before splices) (is_open before.log.group) after (record after { log = group_ended after.log })
      (λ outer. h) (λ own. moved By by before after (record after { log = group_ended after.log }) splices (ended_unchanged after) (sound_ended after h.1) h)

  pub range_by : (document : DocumentState) (from to : Place) (symbols : List Symbol) (now : ℕ) → IsSound document
      → Keeps document (range_splices document from to symbols now) (range_replaced document from to symbols now)
  unfolding range_replaced
  range_by document from to symbols now h =
      let text = document.text in
      let start = stretch_start text from to in
      let stop = stretch_end text from to in
      let ends = stretch_is document from to h in
      ended_by document (stretch_replaced (begun document) start stop symbols now) (range_splices document from to symbols now)
      (then_by document (begun document) (stretch_replaced (begun document) start stop symbols now) [] (range_splices document from to symbols now)
      (begun_by document h) (λ sound. replaced_by (begun document) start stop symbols now sound ends.0 ends.1))

  -- ---- many replacements

  ahead_by : (document : DocumentState) (skip count : ℕ) (symbols : List Symbol) (now : ℕ) → IsSound document
      → Keeps document (stretch_splices document (ahead_start document skip) (ahead_end document skip count) symbols now) (ahead_replaced document skip count symbols now)
  unfolding ahead_replaced
  ahead_by document skip count symbols now h =
      replaced_by document (ahead_start document skip) (ahead_end document skip count) symbols now h (index_is_place document.text _) (index_is_place document.text _)

  each_by : (document : DocumentState) (passed : ℕ) (stretches : List (ℕ × ℕ)) (symbols : List Symbol) (now : ℕ) → IsSound document
      → Keeps document (each_splices document passed stretches symbols now) (each_replaced document passed stretches symbols now)
  each_by document passed [] symbols now h = kept By by document document refl h
  each_by document passed (stretch ∷ rest) symbols now h =
      let after = ahead_replaced document (stretch.0 - passed) (stretch.1 - stretch.0) symbols now in
      then_by document after (each_replaced after stretch.1 rest symbols now) _ (each_splices after stretch.1 rest symbols now)
      (ahead_by document (stretch.0 - passed) (stretch.1 - stretch.0) symbols now h) (λ left. each_by after stretch.1 rest symbols now left)

  start_by : (document : DocumentState) → IsSound document → Keeps document [] (begun_at_start document)
  start_by document h =
      kept By by document (begun_at_start document) (begun_unchanged document) (sound_at (begun document) (0, 0) None (sound_begun document h) (start_is_place document.text) tt)

  in_turn_by : (document : DocumentState) (stretches : List (ℕ × ℕ)) (symbols : List Symbol) (now : ℕ) → IsSound document
      → Keeps document (all_splices document stretches symbols now) (replaced_in_turn document stretches symbols now)
  in_turn_by document stretches symbols now h =
      let after = each_replaced (begun_at_start document) 0 stretches symbols now in
      ended_by document after (all_splices document stretches symbols now)
      (then_by document (begun_at_start document) after [] (all_splices document stretches symbols now)
      (start_by document h) (λ sound. each_by (begun_at_start document) 0 stretches symbols now sound))

  -- a relation that doesn't depend on the layout is also one of replacements at once
  module _ (relays : (old new : DocumentState) (splices : List Splice) (layout : Layout) → By old splices new → By old splices (record new { layout = layout })) where
    all_by : (document : DocumentState) (stretches : List (ℕ × ℕ)) (symbols : List Symbol) (now : ℕ) → IsSound document
        → By document (all_splices document stretches symbols now) (all_replaced document stretches symbols now)
    unfolding all_replaced
    all_by document [] symbols now h = by.none document document refl
    all_by document (stretch ∷ rest) symbols now h =
        let stretches = stretch ∷ rest in
        let new = all_replaced document stretches symbols now in
        let in_turn = replaced_in_turn document stretches symbols now in
        let splices = all_splices document stretches symbols now in
        subst (By document splices) (sym (all_relaid document stretch rest symbols now)) (relays document in_turn splices new.layout (in_turn_by document stretches symbols now h).0)

    pub at_once_by : AtOnce By
    at_once_by = record { all = all_by; stays = λ document sound. by.none document document refl; same = by.same }

  -- cursor and anchor move near other positions
  near_by : (document after : DocumentState) (splices : List Splice) (cursor : Place) (anchor : Option Place) → Keeps document splices after
      → Keeps document splices (moved_near after cursor anchor)
  near_by document after splices cursor anchor h = moved By by document after (moved_near after cursor anchor) splices refl (sound_near after cursor anchor h.1) h

  -- ---- lines that change places with the line above or below them

  relocated_by : (document : DocumentState) (start stop place : Place) (symbols : List Symbol) (now : ℕ) → IsSound document → IsPlace document.text start → IsPlace document.text stop
      → Keeps document (relocation_splices document start stop place symbols now) (relocated document start stop place symbols now)
  unfolding relocated
  relocated_by document start stop place symbols now h at to =
      let between = stretch_removed (begun document) start stop now in
      let rows = lines between.text in
      let there = clip rows place in
      let new = stretch_replaced between there there symbols now in
      let splices = relocation_splices document start stop place symbols now in
      ended_by document new splices
      (then_by document (begun document) new [] splices (begun_by document h)
      (λ sound. then_by (begun document) between new (stretch_removal (begun document) start stop) (stretch_splices between there there symbols now)
      (removed_by (begun document) start stop now sound at to)
      (λ left. let near = clip_is_place rows place (omega (arith, left.cursor.0)) in replaced_by between there there symbols now left near near)))

  pub lines_up_by : (document : DocumentState) (now : ℕ) → IsSound document → Keeps document (move_up_splices document now) (lines_moved_up document now)
  unfolding swapped_up
  lines_up_by document now h =
      let rows = lines document.text in
      let first = first_selected_row document in
      let last = last_selected_row document in
      let place : Place = (last - 1, length (line_of rows last)) in
      let symbols = following (line_of rows (first - 1) ∷ []) in
      let splices = relocation_splices document (first - 1, 0) (first, 0) place symbols now in
      let ends = ends_above document h in
      by_both (Keeps document) (first == 0) [] splices document (swapped_up document now)
      (λ none. kept By by document document refl h)
      (λ some. near_by document (line_above_relocated document now) splices (row_up document.cursor) (option_map row_up document.anchor)
      (relocated_by document (first - 1, 0) (first, 0) place symbols now h ends.0 ends.1))

  pub lines_down_by : (document : DocumentState) (now : ℕ) → IsSound document → Keeps document (move_down_splices document now) (lines_moved_down document now)
  unfolding swapped_down
  lines_down_by document now h =
      let rows = lines document.text in
      let last = last_selected_row document in
      let start = line_end rows last in
      let stop = line_end rows (last + 1) in
      let place : Place = (first_selected_row document, 0) in
      let symbols = leading (line_of rows (last + 1) ∷ []) in
      let splices = relocation_splices document start stop place symbols now in
      by_both (Keeps document) (has_line_below document) splices [] (swapped_down document now) document
      (λ some. let ends = ends_below document h some in
      near_by document (line_below_relocated document now) splices (row_down rows document.cursor) (option_map (row_down rows) document.anchor)
      (relocated_by document start stop place symbols now h ends.0 ends.1))
      (λ none. kept By by document document refl h)

  -- ---- a match and then a search

  pub match_by : (state : State) (found : Option TextMatch) (symbols : List Symbol) → IsSound state.document
      → Keeps state.document (match_splices_by found state symbols) (match_replaced_by found state symbols).document
  match_by state None symbols h =
      let next = next_match state false in
      kept By by state.document (after_search state next).document (search_unchanged state next) (sound_search state next h (match_is_place toward.Forward state false))
  match_by state (Some found) symbols h =
      let start = start_of_match found in
      let stop = end_of_match found in
      let replaced = with_range_replaced state start stop symbols in
      let at_cursor = not (is_empty_match found) in
      let next = next_match replaced at_cursor in
      let once = range_by state.document start stop symbols state.time h in
      moved By by state.document replaced.document (after_search replaced next).document (match_splices_by (Some found) state symbols) (search_unchanged replaced next)
      (sound_search replaced next once.1 (match_is_place toward.Forward replaced at_cursor)) once
