-- One undo takes back the edits of a call that are in one group.
use Rattle.std.proofs.Common.{◌≡◌, ◌∙◌, ◌+◌, ◌-◌, ◌<◌, ◌≤◌, ◌==◌, ◌&&◌, ◌||◌, ℕ, suc, Bool, true, false, cond, List, [], ◌∷◌, ◌++◌, length, take, drop, get_or, Option, Some, ap, arith, refl}
use Rattle.std.proofs.Common.{nat_lt, slice_get, sym, subst}
use Rattle.std.proofs.Math.Bool.{and-false}
use Rattle.std.proofs.Math.Seq.{get_or-append_seam}
use Rattle.std.proofs.lemmas.List.{drop-append-le, get_or_append_left, length-append, length-drop, take_all, take-append-le}
use Rattle.std.proofs.lemmas.Bool.{eqb-true}
use Rattle.std.proofs.lemmas.Option.{slice_get-get_or}
use Rattle.textarea_text.specs.Splice.{Fits, Splice, applied, inverse}
use Rattle.std.specs.Str.{chars}
use Rattle.textarea_text.specs.Text.{Break, Character, Symbol}
use Rattle.textarea_text.proofs.TextPlaces.{takes_back}
use Rattle.textarea_history.specs.Groups.{grouped_before, grouped_first, is_filled, is_forgotten, is_open, with_edit}
use Rattle.textarea_history.specs.Log.{Log, appended_log, continues_newest, group_forgotten, is_empty, is_full, is_outgrown, is_typed, joined_log, joins, newest, newest_group, oldest_group, pause, recorded, remaining_done, remaining_marks}
use Rattle.textarea_history.specs.HistoryLaw.{times}
use Rattle.textarea_history.specs.declared.history.groups.Group.{Group}
use Rattle.textarea_history.specs.declared.history.groups.Group.TheVariants.{Closed, Empty, Filled, Forgotten}
use Rattle.textarea_history.proofs.Groups.{before_none, remaining_same}
use Rattle.textarea_document.specs.DocumentState.{DocumentState}
use Rattle.textarea_document.specs.Edits.{EditStep, Insert, Remove, between_removed, splice_of_step, stepped}
use Rattle.textarea_document.specs.Outcomes.{after_edit, after_undo, after_undo_by, edit_undone}
use Rattle.textarea_document.specs.Selection.{is_selected, selection_end, selection_start}
use Rattle.textarea_document.specs.Sound.{IsSound}
use Rattle.textarea_document.specs.Splices.{removal_splices, selected_splices}
use Rattle.textarea_document.proofs.Layouts.{undo_relaid}
use Rattle.textarea_document.proofs.Sounds.{sound_edited}
use Rattle.textarea_document.proofs.StepLaw.{step_keeps}
use Rattle.textarea_text.specs.Fragment.{fragment_symbols, pasted_symbols}
use Rattle.textarea_calls.specs.declared.call.Call.{Call}
use Rattle.textarea_calls.specs.declared.call.Call.TheVariants as call
use Rattle.tui_textarea.specs.CallUnits.{settled_after}
use Rattle.tui_textarea.proofs.SettledUndos.{undo_after_call}
use Rattle.tui_textarea.specs.Calls.{call_splices, state_after, unguarded_after, unguarded_splices}
use Rattle.tui_textarea.specs.Guards.{admitted_over_selection, barred_after, is_barred}
use Rattle.tui_textarea.specs.Edits.{breaks_line, char_or_break_inserted, fitting_spaces, line_broken, symbols_or_none_inserted, tab_or_spaces_inserted, typed_character_inserted}
use Rattle.tui_textarea.specs.GroupLaw.{IsEditUndoneAtOnce, IsInsertion, IsUndoneAtOnce}
use Rattle.tui_textarea.specs.Grouping.{call_begun, call_ended}
use Rattle.tui_textarea.specs.LayoutCalls.{tab_length}
use Rattle.tui_textarea.specs.Selection.{selection_cancelled, unselected}
use Rattle.tui_textarea.specs.Splices.{char_splices, str_splices, tab_splices}
use Rattle.tui_textarea.specs.State.{State}
use Rattle.tui_textarea.proofs.Cases.{by_both}
use Rattle.tui_textarea.proofs.Grouping.{char_beside, empty_begun, in_group, str_beside, tab_beside}
use Rattle.tui_textarea.proofs.Removing.{selected_made}
use Rattle.tui_textarea.proofs.SoundStates.{sound_in_group}

-- ---- ends of lists

last_is : (front : List Splice) (splice : Splice) → slice_get (front ++ splice ∷ []) (length (front ++ splice ∷ []) - 1) ≡ Some splice
last_is front splice =
    let all = front ++ splice ∷ [] in
    let size : length all ≡ length front + 1 = length-append front (splice ∷ []) in
    let at : length all - 1 ≡ length front = omega (arith, size) in
    ap (slice_get all) at ∙ slice_get-get_or all (length front) splice (omega (arith, size)) ∙ ap (λ (s : Splice). Some s) (get_or-append_seam front splice [] splice)

front_is : (front : List Splice) (splice : Splice) → take (length (front ++ splice ∷ []) - 1) (front ++ splice ∷ []) ≡ front
front_is front splice =
    let at : length (front ++ splice ∷ []) - 1 ≡ length front = omega (arith, length-append front (splice ∷ [])) in
    ap (λ n. take n (front ++ splice ∷ [])) at ∙ take-append-le (length front) front (splice ∷ []) (omega arith) ∙ take_all (length front) front (omega arith)

-- edits that are in one group with the one before them end before one that isn't
first_before : (marks : List Bool) → grouped_first (marks ++ false ∷ []) ≤ length marks
first_before [] = omega arith
first_before (false ∷ marks) = omega arith
first_before (true ∷ marks) = omega (arith, first_before marks)

-- ---- undone edits

-- the newest edit is undone: the text is that before it
undone_one : (new : DocumentState) (front : List Splice) (splice : Splice) (text : List Symbol) → new.log.done ≡ front ++ splice ∷ [] → new.text ≡ applied text splice → Fits text splice →
    ((edit_undone new).text ≡ text) × ((edit_undone new).log.done ≡ front) × ((edit_undone new).log.marks ≡ new.log.marks)
undone_one new front splice text done_is text_is fits =
    let found : newest new.log ≡ Some splice = ap (λ (d : List Splice). slice_get d (length d - 1)) done_is ∙ last_is front splice in
    let is : edit_undone new ≡ after_undo_by (Some splice) new = ap (λ (o : Option Splice). after_undo_by o new) found in (
      ap (λ (d : DocumentState). d.text) is ∙ ap (λ t. applied t (inverse splice)) text_is ∙ (takes_back text splice fits).back,
      ap (λ (d : DocumentState). d.log.done) is ∙ ap (λ (d : List Splice). take (length d - 1) d) done_is ∙ front_is front splice,
      ap (λ (d : DocumentState). d.log.marks) is,
    )

-- ---- one edit, and two in a group

-- nothing joins an edit from before
apart : (log : Log) (splice : Splice) (typed : Bool) (now : ℕ) → log.run_open ≡ false → joins log splice typed now ≡ false
apart log splice typed now closed = ap (λ b. (is_typed splice typed && b) && rest) closed ∙ ap (λ b. b && rest) (and-false (is_typed splice typed))
  where
    rest : Bool
    rest = is_empty log.undone && (nat_lt (now - log.last) pause && continues_newest (newest log) splice)

-- so it is recorded separately
pub separate : (log : Log) (splice : Splice) (typed : Bool) (now : ℕ) → 0 < log.maximum → joins log splice typed now ≡ false → is_outgrown log ≡ false →
    recorded log splice typed now ≡ appended_log log splice typed now
separate log splice typed now some joins_none grows =
    let none : (log.maximum == 0) ≡ false = by (log.maximum == 0) refl in
    ap (λ b. cond b log (cond (joins log splice typed now) (joined_log log splice now) (cond (is_outgrown log) (group_forgotten log) (appended_log log splice typed now)))) none
    ∙ ap (λ b. cond b (joined_log log splice now) (cond (is_outgrown log) (group_forgotten log) (appended_log log splice typed now))) joins_none
    ∙ ap (λ b. cond b (group_forgotten log) (appended_log log splice typed now)) grows
  where
    by : (b : Bool) → (log.maximum == 0) ≡ b → (log.maximum == 0) ≡ false
    by true e = absurd (omega (arith, some, eqb-true log.maximum 0 e))
    by false e = e

-- the edits that stay before one more, of a log whose newest edit is this one, in no group with one before it
record StaysNewest (log : Log) (splice : Splice) : Type 0 where
  front : List Splice
  before : List Bool
  same : length front ≡ length before
  done : remaining_done log ≡ front ++ splice ∷ []
  marks : remaining_marks log ≡ before ++ false ∷ []

stays_newest : (log : Log) (front : List Splice) (before : List Bool) (splice : Splice) → log.done ≡ front ++ splice ∷ [] → log.marks ≡ before ++ false ∷ [] → length front ≡ length before →
    length log.undone ≡ 0 → 1 < log.maximum → StaysNewest log splice
stays_newest log front before splice done_is marks_is same none several = by (is_full log) refl
  where
    kept_marks : take (length log.done) log.marks ≡ before ++ false ∷ []
    kept_marks =
        ap (take (length log.done)) marks_is
        ∙ take_all (length log.done) (before ++ false ∷ []) (omega (arith, ap length done_is, length-append front (splice ∷ []), length-append before (false ∷ []), same))

    less : is_full log ≡ true → oldest_group log ≤ length front
    less full =
        let size : length log.done + length log.undone ≡ log.maximum = eqb-true (length log.done + length log.undone) log.maximum full in
        let some : 1 ≤ length before = omega (arith, size, none, several, same, ap length done_is, length-append front (splice ∷ [])) in
        let rest : drop 1 log.marks ≡ drop 1 before ++ false ∷ [] = ap (drop 1) marks_is ∙ drop-append-le 1 before (false ∷ []) some in
        omega (arith, ap grouped_first rest, first_before (drop 1 before), length-drop 1 before, some, same)

    by : (full : Bool) → is_full log ≡ full → StaysNewest log splice
    by true e =
        let within = less e in
        let whole : is_full log ≡ true = e in
        record {
          front = drop (oldest_group log) front;
          before = drop (oldest_group log) before;
          same = omega (arith, length-drop (oldest_group log) front, length-drop (oldest_group log) before, same);
          done = ap (λ b. cond b (drop (oldest_group log) log.done) log.done) whole ∙ ap (drop (oldest_group log)) done_is ∙ drop-append-le (oldest_group log) front (splice ∷ []) within;
          marks = ap (λ b. cond b (drop (oldest_group log) (take (length log.done) log.marks)) (take (length log.done) log.marks)) whole
              ∙ ap (drop (oldest_group log)) kept_marks ∙ drop-append-le (oldest_group log) before (false ∷ []) (omega (arith, within, same));
        }
    by false e = record {
      front = front;
      before = before;
      same = same;
      done = ap (λ b. cond b (drop (oldest_group log) log.done) log.done) e ∙ done_is;
      marks = ap (λ b. cond b (drop (oldest_group log) (take (length log.done) log.marks)) (take (length log.done) log.marks)) e ∙ kept_marks;
    }

not_empty : (front : List Splice) (splice : Splice) → is_empty (front ++ splice ∷ []) ≡ false
not_empty [] splice = refl
not_empty (first ∷ front) splice = refl

-- what an undo reads of a document after edits that made this log
pub record HasEdits (new : DocumentState) (text : List Symbol) (log : Log) : Type 0 where
  pub text_is : new.text ≡ text
  pub done : new.log.done ≡ log.done
  pub marks : new.log.marks ≡ log.marks

-- one edit is undone that joins none, and is in no group with the one before it
pub one_undone : (document new : DocumentState) (splice : Splice) (typed : Bool) (now : ℕ) → IsSound document → Fits document.text splice → 0 < document.log.maximum →
    joins document.log splice typed now ≡ false → is_filled document.log.group ≡ false → is_forgotten document.log.group ≡ false →
    HasEdits new (applied document.text splice) (recorded document.log splice typed now) → (after_undo new).text ≡ document.text
one_undone document new splice typed now h fits some joins_none first known edits =
    let log = document.log in
    let front = remaining_done log in
    let before = remaining_marks log in
    let grows : is_outgrown log ≡ false =
    ap (λ b. b || (is_filled log.group && (is_full log && is_empty front))) known ∙ ap (λ b. b && (is_full log && is_empty front)) first in
    let is = separate log splice typed now some joins_none grows in
    let done_is : new.log.done ≡ front ++ splice ∷ [] = edits.done ∙ ap (λ (l : Log). l.done) is in
    let marks_is : new.log.marks ≡ before ++ false ∷ [] = edits.marks ∙ ap (λ (l : Log). l.marks) is ∙ ap (λ b. before ++ b ∷ []) first in
    let at : length new.log.done - 1 ≡ length before =
    omega (arith, ap length done_is, length-append front (splice ∷ []), remaining_same log (omega (arith, h.marks))) in
    let mark : get_or new.log.marks (length new.log.done - 1) false ≡ false =
    ap (λ n. get_or new.log.marks n false) at ∙ ap (λ (m : List Bool). get_or m (length before) false) marks_is ∙ get_or-append_seam before false [] false in
    let group : newest_group new.log ≡ 1 = ap suc (before_none new.log.marks (length new.log.done - 1) mark) in
    ap (λ (d : DocumentState). d.text) (undo_relaid new) ∙ ap (λ n. (times n edit_undone new).text) group ∙ (undone_one new front splice document.text done_is edits.text_is fits).0

-- and two edits in one group, the first not as typed
pub two_undone : (document new : DocumentState) (first second : Splice) (typed : Bool) (now : ℕ) → IsSound document → Fits document.text first →
    Fits (applied document.text first) second → 1 < document.log.maximum → document.log.group ≡ Empty →
    HasEdits new (applied (applied document.text first) second) (recorded (recorded document.log first false now) second typed now) → (after_undo new).text ≡ document.text
two_undone document new first second typed now h fits then_fits several empty edits =
    let log = document.log in
    let after = appended_log log first false now in
    let first_is : recorded log first false now ≡ after =
    separate log first false now (omega (arith, several)) refl (ap (λ (g : Group). is_forgotten g || (is_filled g && (is_full log && is_empty (remaining_done log)))) empty) in
    let stays = stays_newest after (remaining_done log) (remaining_marks log) first refl (ap (λ (g : Group). remaining_marks log ++ is_filled g ∷ []) empty)
    (sym (remaining_same log (omega (arith, h.marks)))) refl several in
    let grows : is_outgrown after ≡ false =
    ap (λ (g : Group). is_forgotten (with_edit g) || (is_filled (with_edit g) && (is_full after && is_empty (remaining_done after)))) empty
    ∙ ap (λ (d : List Splice). is_full after && is_empty d) stays.done
    ∙ ap (λ b. is_full after && b) (not_empty stays.front first)
    ∙ and-false (is_full after) in
    let is : recorded (recorded log first false now) second typed now ≡ appended_log after second typed now =
    ap (λ (l : Log). recorded l second typed now) first_is ∙ separate after second typed now (omega (arith, several)) (apart after second typed now refl) grows in
    let front = stays.front ++ first ∷ [] in
    let before = stays.before ++ false ∷ [] in
    let done_is : new.log.done ≡ front ++ second ∷ [] = edits.done ∙ ap (λ (l : Log). l.done) is ∙ ap (λ (d : List Splice). d ++ second ∷ []) stays.done in
    let marks_is : new.log.marks ≡ before ++ true ∷ [] =
    edits.marks ∙ ap (λ (l : Log). l.marks) is ∙ ap (λ (g : Group). remaining_marks after ++ is_filled (with_edit g) ∷ []) empty ∙ ap (λ (m : List Bool). m ++ true ∷ []) stays.marks in
    let at : length new.log.done - 1 ≡ suc (length stays.before) =
    omega (arith, ap length done_is, length-append front (second ∷ []), length-append stays.front (first ∷ []), stays.same) in
    let size : length before ≡ suc (length stays.before) = omega (arith, length-append stays.before (false ∷ [])) in
    let last : get_or (before ++ true ∷ []) (suc (length stays.before)) false ≡ true =
    ap (λ n. get_or (before ++ true ∷ []) n false) (sym size) ∙ get_or-append_seam before true [] false in
    let own : get_or (before ++ true ∷ []) (length stays.before) false ≡ false =
    get_or_append_left before (true ∷ []) false (length stays.before) (omega (arith, size)) ∙ get_or-append_seam stays.before false [] false in
    let group : newest_group new.log ≡ 2 =
    ap (λ n. suc (grouped_before new.log.marks n)) at
    ∙ ap (λ (m : List Bool). suc (grouped_before m (suc (length stays.before)))) marks_is
    ∙ ap (λ b. suc (cond b (suc (grouped_before (before ++ true ∷ []) (length stays.before))) 0)) last
    ∙ ap (λ n. suc (suc n)) (before_none (before ++ true ∷ []) (length stays.before) own) in
    let back = undone_one new front second (applied document.text first) done_is edits.text_is then_fits in
    ap (λ (d : DocumentState). d.text) (undo_relaid new)
    ∙ ap (λ n. (times n edit_undone new).text) group
    ∙ (undone_one (edit_undone new) stays.front first document.text back.1 back.0 fits).0

-- ---- over a selection, or without one

abbrev begun : State → DocumentState
begun state = (call_begun state).document

-- what the law asks of the state
pub record StartsGroup (state : State) : Type 0 where
  pub sound : IsSound state.document
  pub several : 1 < state.document.log.maximum
  pub empty : (begun state).log.group ≡ Empty
  pub no_run : is_selected state.document ≡ false → state.document.log.run_open ≡ false

abbrev Back : State → DocumentState → Type 0
Back state new = (after_undo new).text ≡ state.document.text

-- the removal of the selected text
removed_back : (state : State) (new : DocumentState) → StartsGroup state → is_selected state.document ≡ true →
    HasEdits new (unselected (call_begun state)).document.text (unselected (call_begun state)).document.log → Back state new
unfolding between_removed
removed_back state new starts selected edits =
    let document = begun state in
    let sound = sound_in_group state document.log.group starts.sound in
    let step = Remove (selection_start document) (selection_end document) in
    let keeps = step_keeps document step sound (selected_made document sound selected) in
    let is : (unselected (call_begun state)).document ≡ stepped document step false state.time = ap (λ b. cond b (stepped document step false state.time) document) selected in
    one_undone document new (splice_of_step document step) false state.time sound keeps.0 (omega (arith, starts.several)) refl (ap is_filled starts.empty) (ap is_forgotten starts.empty)
    (record { text_is = edits.text_is ∙ ap (λ (d : DocumentState). d.text) is; done = edits.done ∙ ap (λ (d : DocumentState). d.log.done) is; marks = edits.marks ∙ ap (λ (d : DocumentState). d.log.marks) is })

-- an insertion after it, or without a selection
inserted_back : (state : State) (symbols : List Symbol) (typed : Bool) (group : Group) → StartsGroup state → 0 < length symbols →
    Back state (in_group (stepped (unselected (call_begun state)).document (Insert symbols) typed state.time) group)
unfolding between_removed
inserted_back state symbols typed group starts some = by (is_selected state.document) refl
  where
    document : DocumentState
    document = begun state

    sound : IsSound document
    sound = sound_in_group state document.log.group starts.sound

    step : EditStep
    step = Remove (selection_start document) (selection_end document)

    left : DocumentState
    left = stepped document step false state.time

    by : (selected : Bool) → is_selected state.document ≡ selected → Back state (in_group (stepped (cond selected left document) (Insert symbols) typed state.time) group)
    by true e =
        let keeps = step_keeps document step sound (selected_made document sound e) in
        let fits = step_keeps left (Insert symbols) (sound_edited document (splice_of_step document step) false state.time sound keeps.0) some in
        two_undone document (in_group (stepped left (Insert symbols) typed state.time) group) (splice_of_step document step) (splice_of_step left (Insert symbols)) typed state.time sound keeps.0 fits.0
        starts.several starts.empty (record { text_is = refl; done = refl; marks = refl })
    by false e =
        let fits = step_keeps document (Insert symbols) sound some in
        one_undone document (in_group (stepped document (Insert symbols) typed state.time) group) (splice_of_step document (Insert symbols)) typed state.time sound fits.0 (omega (arith, starts.several))
        (apart document.log (splice_of_step document (Insert symbols)) typed state.time (starts.no_run e)) (ap is_filled starts.empty) (ap is_forgotten starts.empty)
        (record { text_is = refl; done = refl; marks = refl })

-- a splice of nothing but the selected text means that there is some
some_selected : (state : State) → 0 < length (selected_splices state.document ++ []) → is_selected state.document ≡ true
some_selected state = by (is_selected state.document)
  where
    by : (b : Bool) → 0 < length (cond b (removal_splices state.document (selection_start state.document) (selection_end state.document)) [] ++ []) → b ≡ true
    by true some = refl
    by false some = absurd (omega (arith, some))

-- ---- the calls

-- the text comes back if the call has a splice
abbrev BackIf : State → List Splice → State → Type 0
BackIf state splices new = 0 < length splices → Back state (call_ended state new).document

module _ (state : State) (starts : StartsGroup state) where
  str_back : (symbols : List Symbol) → BackIf state (str_splices (call_begun state) symbols) (symbols_or_none_inserted (unselected (call_begun state)) symbols)
  str_back [] some =
      removed_back state (call_ended state (symbols_or_none_inserted (unselected (call_begun state)) [])).document starts (some_selected (call_begun state) some) (record { text_is = refl; done = refl; marks = refl })
  str_back (symbol ∷ symbols) some =
      inserted_back state (symbol ∷ symbols) false (call_ended state (symbols_or_none_inserted (unselected (call_begun state)) (symbol ∷ symbols))).document.log.group starts (omega arith)

  break_back : BackIf state (str_splices (call_begun state) (Break ∷ [])) (line_broken (unselected (call_begun state)))
  break_back some = inserted_back state (Break ∷ []) false (call_ended state (line_broken (unselected (call_begun state)))).document.log.group starts (omega arith)

  typed_back : (c : ℕ) → BackIf state (str_splices (call_begun state) (Character c ∷ [])) (typed_character_inserted (unselected (call_begun state)) c)
  typed_back c some =
      inserted_back state (Character c ∷ []) state.settings.undo_coalescing (call_ended state (typed_character_inserted (unselected (call_begun state)) c)).document.log.group starts (omega arith)

  char_back : (c : ℕ) → BackIf state (char_splices (call_begun state) c) (char_or_break_inserted (unselected (call_begun state)) c)
  char_back c = by_both (BackIf state) (breaks_line c) _ _ _ _ (λ breaks. break_back) (λ other. typed_back c)

  tab_back : BackIf state (tab_splices (call_begun state)) (tab_or_spaces_inserted (unselected (call_begun state)) (tab_length state.document))
  tab_back =
      let start = unselected (call_begun state) in
      let spaces = fitting_spaces start (tab_length state.document) in
      by_both (BackIf state) (tab_length state.document == 0) _ _ _ _
      (λ none some. removed_back state (call_ended state (selection_cancelled start)).document starts (some_selected (call_begun state) some) (record { text_is = refl; done = refl; marks = refl }))
      (λ tabs. by_both (BackIf state) state.settings.hard_tab_indent _ _ _ _ (λ hard. typed_back 9) (λ soft. str_back spaces))

  unguarded_call : (made : Call) → IsInsertion made → 0 < length (unguarded_splices state made) → Back state (unguarded_after state made).document
  unguarded_call (call.InsertChar c) is some = char_back c (subst (λ (s : List Splice). 0 < length s) (sym (char_beside state c)) some)
  unguarded_call (call.InsertStr text) is some =
      let symbols = admitted_over_selection state (fragment_symbols (chars text.now)) in str_back symbols (subst (λ (s : List Splice). 0 < length s) (sym (str_beside state symbols)) some)
  unguarded_call (call.InsertPasted text) is some =
      let symbols = admitted_over_selection state (pasted_symbols (chars text.now)) in str_back symbols (subst (λ (s : List Splice). 0 < length s) (sym (str_beside state symbols)) some)
  unguarded_call call.InsertTab is some = tab_back (subst (λ (s : List Splice). 0 < length s) (sym (tab_beside state)) some)
  unguarded_call call.InsertNewline is some = break_back (subst (λ (s : List Splice). 0 < length s) (sym (str_beside state (Break ∷ []))) some)
  unguarded_call call.Paste is some = str_back (admitted_over_selection state state.yank) (subst (λ (s : List Splice). 0 < length s) (sym (str_beside state (admitted_over_selection state state.yank))) some)
  unguarded_call made is some = absurd is

  by_call : (made : Call) → IsInsertion made → 0 < length (call_splices state made) → Back state (state_after state made).document
  by_call made is =
      by_both (λ (splices : List Splice) (new : State). 0 < length splices → Back state new.document) (is_barred state made) [] (unguarded_splices state made) (barred_after state made)
      (settled_after made (unguarded_after state made)) (λ barred some. absurd (omega (arith, some)))
      (λ free some. undo_after_call made (unguarded_after state made) ∙ unguarded_call made is some)

pub undone_at_once : (state : State) (made : Call) → IsSound state.document → IsInsertion made → IsUndoneAtOnce state made
undone_at_once state made sound is grouping closed several no_run some =
    by_call state (record { sound = sound; several = several; empty = empty_begun state grouping closed; no_run = no_run }) made is some

-- ---- any edit

closed_alone : (group : Group) → is_open group ≡ false → (is_filled group ≡ false) × (is_forgotten group ≡ false)
closed_alone Closed e = (refl, refl)
closed_alone Empty e = absurd cc
closed_alone Filled e = absurd cc
closed_alone Forgotten e = absurd cc

pub edit_undone_at_once : (document : DocumentState) (splice : Splice) (typed : Bool) (now : ℕ) → IsSound document → IsEditUndoneAtOnce document splice typed now
edit_undone_at_once document splice typed now h fits some closed joins_none =
    let alone = closed_alone document.log.group closed in
    one_undone document (after_edit document splice typed now) splice typed now h fits some joins_none alone.0 alone.1 (record { text_is = refl; done = refl; marks = refl })
