-- One undo takes a replacement back: its removals and insertions are one group.
use Rattle.std.proofs.Common.{◌≡◌, ◌∙◌, ◌+◌, ◌-◌, ◌*◌, ◌<◌, ◌≤◌, ℕ, false, cond, List, [], ◌∷◌, ◌++◌, length, Option, None, Some, not, ap, arith, refl, subst, sym}
use Rattle.std.proofs.lemmas.List.{append-nil, append_assoc, length-append}
use Rattle.textarea_text.specs.Fragment.{fragment_symbols}
use Rattle.std.specs.Str.{chars}
use Rattle.textarea_text.specs.Place.{IsPlace, Place, is_before}
use Rattle.textarea_text.specs.Splice.{Fits, IsTextBefore, Splice, applied}
use Rattle.textarea_text.specs.Text.{Symbol}
use Rattle.textarea_history.specs.Groups.{is_open}
use Rattle.textarea_history.specs.Log.{Log, group_ended, recorded}
use Rattle.textarea_history.specs.declared.history.groups.Group.TheVariants.{Closed, Empty}
use Rattle.textarea_history.proofs.UndoLaws.{CanApply-last, applied_all-last}
use Rattle.textarea_calls.specs.declared.call.Call.{Call}
use Rattle.textarea_calls.specs.declared.call.Call.TheVariants as call
use Rattle.textarea_search.specs.declared.search.text_matches.TextMatch.{TextMatch}
use Rattle.textarea_document.specs.DocumentState.{DocumentState}
use Rattle.textarea_document.specs.Edits.{EditStep, HasEffect, Insert, Remove, between_removed, nothing_inserted, splice_of_step, stepped, symbols_inserted}
use Rattle.textarea_document.specs.Outcomes.{after_move, after_undo, run_ended}
use Rattle.textarea_document.specs.Replacing.{ahead_end, ahead_replaced, ahead_start, all_replaced, all_splices, begun, begun_at_start, each_replaced, each_splices, ended_after, range_replaced, range_splices}
use Rattle.textarea_document.specs.Replacing.{stretch_end, stretch_removal, stretch_removed, stretch_replaced, stretch_splices, stretch_start}
use Rattle.textarea_document.specs.Sound.{IsSound}
use Rattle.textarea_document.specs.Splices.{insertion_splices}
use Rattle.textarea_document.proofs.Layouts.{all_relaid}
use Rattle.textarea_document.proofs.Orders.{index_before}
use Rattle.textarea_document.proofs.Sounds.{sound_begun, sound_edited, start_is_place}
use Rattle.textarea_document.proofs.StepLaw.{step_keeps}
use Rattle.tui_textarea.specs.CallUnits.{settled_after}
use Rattle.tui_textarea.proofs.SettledUndos.{undo_after_call}
use Rattle.tui_textarea.specs.Units.{whole_stretch}
use Rattle.tui_textarea.specs.Calls.{call_splices, state_after, unguarded_after, unguarded_splices}
use Rattle.tui_textarea.specs.Guards.{admitted, admitted_whole, admitted_for, barred_after, is_barred}
use Rattle.tui_textarea.specs.GroupLaw.{IsReplacement, IsReplacementUndoneAtOnce, MakesFewEdits}
use Rattle.tui_textarea.specs.Replacing.{match_at_cursor, match_replaced_by, match_splices_by, replaceable, with_range_replaced}
use Rattle.tui_textarea.specs.Search.{after_search, next_match}
use Rattle.tui_textarea.specs.State.{State}
use Rattle.tui_textarea.specs.WholeMatches.{end_of_match, is_empty_match, start_of_match}
use Rattle.tui_textarea.proofs.Cases.{by_both, by_test}
use Rattle.tui_textarea.proofs.GroupsOfCalls.{EndsWith, first_recorded, group_taken_back, more_recorded}
use Rattle.tui_textarea.proofs.Replacing.{stretch_is}
use Rattle.tui_textarea.proofs.SoundStates.{sound_at}
use Rattle.tui_textarea.proofs.StaysSound.{unguarded_stays_sound}
use Rattle.tui_textarea.proofs.Stepping.{nothing_stays_sound}
use Rattle.tui_textarea.proofs.Targets.{index_is_place}
use Rattle.tui_textarea.proofs.UndoneAtOnce.{HasEdits}

-- ---- a document in the group of a call

-- the log holds these edits of the group, and remembers more of them
abbrev HoldsOwn : ℕ → Log → List Splice → Type 0
HoldsOwn maximum log [] = (log.group ≡ Empty) × (log.maximum ≡ maximum)
HoldsOwn maximum log (first ∷ rest) = EndsWith maximum log first rest

-- the edits of the group lead to the document's text from the one before them
record InGroup (maximum : ℕ) (before : List Symbol) (document : DocumentState) (own : List Splice) : Type 0 where
  sound : IsSound document
  leads : IsTextBefore before document.text own
  holds : HoldsOwn maximum document.log own

-- the end of a run of typing
run_ended_holds : (maximum : ℕ) (log : Log) (own : List Splice) → HoldsOwn maximum log own → HoldsOwn maximum (run_ended log) own
run_ended_holds maximum log [] h = h
run_ended_holds maximum log (first ∷ rest) h =
    record { front = h.front; before = h.before; same = h.same; done = h.done; marks = h.marks; none = h.none; filled = h.filled; most = h.most }

-- one edit more
held : (maximum : ℕ) (log : Log) (own : List Splice) (splice : Splice) (now : ℕ) → length log.done ≤ length log.marks → length own < maximum
    → HoldsOwn maximum log own → HoldsOwn maximum (recorded log splice false now) (own ++ splice ∷ [])
held maximum log [] splice now marked room h =
    subst (λ n. EndsWith n (recorded log splice false now) splice []) h.1 (first_recorded log splice now h.0 marked (omega (arith, room, h.1)))
held maximum log (first ∷ rest) splice now marked room h = more_recorded maximum log first rest splice now h (omega (arith, room))

module _ (maximum : ℕ) (before : List Symbol) where
  -- further splices of the group lead from one document to the other
  abbrev Goes : DocumentState → List Splice → DocumentState → Type 0
  Goes old splices new = (own : List Splice) → InGroup maximum before old own → length own + length splices ≤ maximum → InGroup maximum before new (own ++ splices)

  two : (old between new : DocumentState) (first second : List Splice) → Goes old first between → Goes between second new → Goes old (first ++ second) new
  two old between new first second h k own start room =
      let sizes = length-append first second in
      subst (InGroup maximum before new) (append_assoc own first second)
      (k (own ++ first) (h own start (omega (arith, room, sizes))) (omega (arith, room, sizes, length-append own first)))

  none : (old new : DocumentState) → (IsSound old → IsSound new) → new.text ≡ old.text → ((own : List Splice) → HoldsOwn maximum old.log own → HoldsOwn maximum new.log own)
      → Goes old [] new
  none old new sound same holds own start room =
      subst (InGroup maximum before new) (sym (append-nil own))
      (record { sound = sound start.sound; leads = subst (λ t. IsTextBefore before t own) (sym same) start.leads; holds = holds own start.holds })

  step : (document : DocumentState) (made : EditStep) (now : ℕ) → (IsSound document → HasEffect document made)
      → Goes document (splice_of_step document made ∷ []) (stepped document made false now)
  step document made now effect own start room =
      let splice = splice_of_step document made in
      let keeps = step_keeps document made start.sound (effect start.sound) in
      record {
        sound = sound_edited document splice false now start.sound keeps.0;
        leads = record {
          can = CanApply-last before own splice start.leads.can (subst (λ t. Fits t splice) (sym start.leads.leads) keeps.0);
          leads = applied_all-last before own splice ∙ ap (λ t. applied t splice) start.leads.leads;
        };
        holds = held maximum document.log own splice now (omega (arith, start.sound.marks)) (omega (arith, room)) start.holds;
      }

  -- ---- one replacement

  removed : (document : DocumentState) (start stop : Place) (now : ℕ) → IsPlace document.text start → IsPlace document.text stop
      → Goes document (stretch_removal document start stop) (stretch_removed document start stop now)
  unfolding stretch_removed between_removed
  removed document start stop now at to =
      by_both (Goes document) (is_before start stop) _ _ _ _
      (λ some. step document (Remove start stop) now (λ sound. (at, to, index_before document.text start stop at to some)))
      (λ empty. none document (after_move document start None) (λ sound. sound_at document start None sound at tt) refl (λ own h. run_ended_holds maximum document.log own h))

  inserted : (document : DocumentState) (symbols : List Symbol) (now : ℕ) → Goes document (insertion_splices document symbols) (symbols_inserted document symbols now)
  inserted document [] now = none document (nothing_inserted document) (λ sound. nothing_stays_sound document sound) refl (λ own h. h)
  inserted document (symbol ∷ symbols) now = step document (Insert (symbol ∷ symbols)) now (λ sound. omega arith)

  replaced : (document : DocumentState) (start stop : Place) (symbols : List Symbol) (now : ℕ) → IsPlace document.text start → IsPlace document.text stop
      → Goes document (stretch_splices document start stop symbols now) (stretch_replaced document start stop symbols now)
  unfolding stretch_splices stretch_replaced
  replaced document start stop symbols now at to =
      let left = stretch_removed document start stop now in
      two document left (symbols_inserted left symbols now) (stretch_removal document start stop) (insertion_splices left symbols)
      (removed document start stop now at to) (inserted left symbols now)

  -- ---- one after another

  ahead : (document : DocumentState) (skip count : ℕ) (symbols : List Symbol) (now : ℕ)
      → Goes document (stretch_splices document (ahead_start document skip) (ahead_end document skip count) symbols now) (ahead_replaced document skip count symbols now)
  unfolding ahead_replaced
  ahead document skip count symbols now =
      replaced document (ahead_start document skip) (ahead_end document skip count) symbols now (index_is_place document.text _) (index_is_place document.text _)

  each : (document : DocumentState) (passed : ℕ) (stretches : List (ℕ × ℕ)) (symbols : List Symbol) (now : ℕ)
      → Goes document (each_splices document passed stretches symbols now) (each_replaced document passed stretches symbols now)
  each document passed [] symbols now = none document document (λ sound. sound) refl (λ own h. h)
  each document passed (stretch ∷ rest) symbols now =
      let skip = stretch.0 - passed in
      let count = stretch.1 - stretch.0 in
      let after = ahead_replaced document skip count symbols now in
      two document after (each_replaced after stretch.1 rest symbols now)
      (stretch_splices document (ahead_start document skip) (ahead_end document skip count) symbols now) (each_splices after stretch.1 rest symbols now)
      (ahead document skip count symbols now) (each after stretch.1 rest symbols now)

  -- ---- the undo

  taken_back : (document new : DocumentState) (own : List Splice) → InGroup maximum before document own → 0 < length own → IsSound new
      → HasEdits new document.text document.log → (after_undo new).text ≡ before
  taken_back document new [] h some sound edits = absurd (omega (arith, some))
  taken_back document new (first ∷ rest) h some sound edits = group_taken_back maximum before document new first rest sound edits h.leads h.holds

-- the end of a group changes nothing that an undo reads
ended_edits : (before document : DocumentState) → HasEdits (ended_after before document) document.text document.log
ended_edits before document =
    by_test (λ (d : DocumentState). HasEdits d document.text document.log) (is_open before.log.group) document (record document { log = group_ended document.log })
    (λ outer. record { text_is = refl; done = refl; marks = refl })
    (λ own. by_test (λ (l : Log). HasEdits (record document { log = l }) document.text document.log) (is_open document.log.group) (record document.log { run_open = false; group = Closed }) document.log
    (λ ends. record { text_is = refl; done = refl; marks = refl }) (λ none. record { text_is = refl; done = refl; marks = refl }))

-- nor does a search
searched_edits : (state : State) (found : Option Place) (text : List Symbol) (log : Log) → HasEdits state.document text log → HasEdits (after_search state found).document text log
searched_edits state None text log h = h
searched_edits state (Some place) text log h = record { text_is = h.text_is; done = h.done; marks = h.marks }

-- ---- the beginning of a group

begins : (document : DocumentState) → IsSound document → is_open document.log.group ≡ false → InGroup document.log.maximum document.text (begun document) []
begins document sound closed =
    let own : Log = record document.log { run_open = false; group = Empty } in
    let is : begun document ≡ record document { log = own } = ap (λ b. record document { log = cond b document.log own }) closed in
    record {
      sound = sound_begun document sound;
      leads = record { can = tt; leads = refl };
      holds = (ap (λ (d : DocumentState). d.log.group) is, ap (λ (d : DocumentState). d.log.maximum) is);
    }

-- ---- the calls

abbrev Back : State → State → Type 0
Back state new = (after_undo new.document).text ≡ state.document.text

module _ (state : State) (sound : IsSound state.document) (closed : is_open state.document.log.group ≡ false) where
  range_back : (from to : Place) (symbols : List Symbol) (new : State) → IsSound new.document
      → HasEdits new.document (with_range_replaced state from to symbols).document.text (with_range_replaced state from to symbols).document.log
      → 0 < length (range_splices state.document from to symbols state.time) → length (range_splices state.document from to symbols state.time) ≤ state.document.log.maximum → Back state new
  unfolding range_replaced
  range_back from to symbols new is_sound edits some room =
      let document = state.document in
      let start = stretch_start document.text from to in
      let stop = stretch_end document.text from to in
      let ends = stretch_is document from to sound in
      let inner = stretch_replaced (begun document) start stop symbols state.time in
      let ended = ended_edits document inner in
      taken_back document.log.maximum document.text inner new.document (range_splices document from to symbols state.time)
      (replaced document.log.maximum document.text (begun document) start stop symbols state.time ends.0 ends.1 [] (begins document sound closed) (omega (arith, room)))
      some is_sound (record { text_is = edits.text_is ∙ ended.text_is; done = edits.done ∙ ended.done; marks = edits.marks ∙ ended.marks })

  match_back : (found : Option TextMatch) (symbols : List Symbol) → IsSound (match_replaced_by found state symbols).document
      → 0 < length (match_splices_by found state symbols) → length (match_splices_by found state symbols) ≤ state.document.log.maximum → Back state (match_replaced_by found state symbols)
  match_back None symbols is_sound some room = absurd (omega (arith, some))
  match_back (Some found) symbols is_sound some room =
      let start = start_of_match found in
      let stop = end_of_match found in
      let between = with_range_replaced state start stop symbols in
      range_back start stop symbols (match_replaced_by (Some found) state symbols) is_sound
      (searched_edits between (next_match between (not (is_empty_match found))) between.document.text between.document.log (record { text_is = refl; done = refl; marks = refl })) some room

  all_back : (stretches : List (ℕ × ℕ)) (symbols : List Symbol) → IsSound (all_replaced state.document stretches symbols state.time)
      → 0 < length (all_splices state.document stretches symbols state.time) → length (all_splices state.document stretches symbols state.time) ≤ state.document.log.maximum
      → (after_undo (all_replaced state.document stretches symbols state.time)).text ≡ state.document.text
  all_back [] symbols is_sound some room = absurd (omega (arith, some))
  all_back (stretch ∷ rest) symbols is_sound some room =
      let document = state.document in
      let at_start = begun_at_start document in
      let inner = each_replaced at_start 0 (stretch ∷ rest) symbols state.time in
      let first = none document.log.maximum document.text (begun document) at_start (λ h. sound_at (begun document) (0, 0) None h (start_is_place document.text) tt) refl
      (λ own h. run_ended_holds document.log.maximum (begun document).log own h) [] (begins document sound closed) (omega arith) in
      let ended = ended_edits document inner in
      let same = all_relaid document stretch rest symbols state.time in
      taken_back document.log.maximum document.text inner (all_replaced document (stretch ∷ rest) symbols state.time) (all_splices document (stretch ∷ rest) symbols state.time)
      (each document.log.maximum document.text at_start 0 (stretch ∷ rest) symbols state.time [] first (omega (arith, room))) some is_sound
      (record {
        text_is = ap (λ (d : DocumentState). d.text) same ∙ ended.text_is;
        done = ap (λ (d : DocumentState). d.log.done) same ∙ ended.done;
        marks = ap (λ (d : DocumentState). d.log.marks) same ∙ ended.marks;
      })

  unguarded_call : (made : Call) → IsReplacement made → 0 < length (unguarded_splices state made) → length (unguarded_splices state made) ≤ state.document.log.maximum → Back state (unguarded_after state made)
  unguarded_call (call.ReplaceRange from to text) is some room =
      let ends = whole_stretch state from to in
      let symbols = admitted_whole state from to (fragment_symbols (chars text.now)) in
      range_back ends.0 ends.1 symbols (with_range_replaced state ends.0 ends.1 symbols) (unguarded_stays_sound state (call.ReplaceRange from to text) sound tt) (record { text_is = refl; done = refl; marks = refl }) some room
  unguarded_call (call.ReplaceMatch text) is some room =
      match_back (match_at_cursor state) (admitted_for (match_at_cursor state) state (fragment_symbols (chars text.now))) (unguarded_stays_sound state (call.ReplaceMatch text) sound tt) some room
  unguarded_call (call.ReplaceAll text) is some room =
      all_back (replaceable state) (admitted state (fragment_symbols (chars text.now))) (unguarded_stays_sound state (call.ReplaceAll text) sound tt) some room
  unguarded_call made is some room = absurd is

  by_call : (made : Call) → IsReplacement made → 0 < length (call_splices state made) → length (call_splices state made) ≤ state.document.log.maximum → Back state (state_after state made)
  by_call made is =
      by_both (λ (splices : List Splice) (new : State). 0 < length splices → length splices ≤ state.document.log.maximum → Back state new) (is_barred state made) [] (unguarded_splices state made)
      (barred_after state made) (settled_after made (unguarded_after state made)) (λ barred some room. absurd (omega (arith, some)))
      (λ free some room. undo_after_call made (unguarded_after state made) ∙ unguarded_call made is some room)

pub replacement_undone_at_once : (state : State) (made : Call) → IsSound state.document → IsReplacement made → IsReplacementUndoneAtOnce state made
replacement_undone_at_once state made sound is closed some room = by_call state sound closed made is some room

-- ---- the number of edits

removals_few : (document : DocumentState) (start stop : Place) → length (stretch_removal document start stop) ≤ 1
removals_few document start stop = by_test (λ (s : List Splice). length s ≤ 1) (is_before start stop) _ _ (λ some. omega arith) (λ empty. omega arith)

insertions_few : (document : DocumentState) (symbols : List Symbol) → length (insertion_splices document symbols) ≤ 1
insertions_few document [] = omega arith
insertions_few document (symbol ∷ symbols) = omega arith

stretch_few : (document : DocumentState) (start stop : Place) (symbols : List Symbol) (now : ℕ) → length (stretch_splices document start stop symbols now) ≤ 2
unfolding stretch_splices
stretch_few document start stop symbols now =
    let left = stretch_removed document start stop now in
    omega (arith, removals_few document start stop, insertions_few left symbols, length-append (stretch_removal document start stop) (insertion_splices left symbols))

each_few : (document : DocumentState) (passed : ℕ) (stretches : List (ℕ × ℕ)) (symbols : List Symbol) (now : ℕ)
    → length (each_splices document passed stretches symbols now) ≤ 2 * length stretches
each_few document passed [] symbols now = omega arith
each_few document passed (stretch ∷ rest) symbols now =
    let skip = stretch.0 - passed in
    let count = stretch.1 - stretch.0 in
    let first = stretch_splices document (ahead_start document skip) (ahead_end document skip count) symbols now in
    let after = ahead_replaced document skip count symbols now in
    omega (
      arith,
      stretch_few document (ahead_start document skip) (ahead_end document skip count) symbols now,
      each_few after stretch.1 rest symbols now,
      length-append first (each_splices after stretch.1 rest symbols now),
    )

pub few_edits : (state : State) (symbols : List Symbol) → MakesFewEdits state symbols
few_edits state symbols = record { few = each_few (begun_at_start state.document) 0 (replaceable state) symbols state.time }
