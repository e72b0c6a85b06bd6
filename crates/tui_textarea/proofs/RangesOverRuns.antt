-- Where the ranges after a run come from, and what splits and drops ranges on the way.
use Rattle.std.proofs.Common.{◌≡◌, ◌≢◌, ◌⊎◌, ℕ, suc, ◌≤◌, List, [], ◌∷◌, ◌++◌, length, map, get_or, take, take_all, Option, None, Some, ap, refl, subst, sym, ◌∙◌, inl, inr, arith}
use Rattle.std.specs.Prelude.{All, Contains}
use Rattle.std.proofs.lemmas.List.{append-nil, append_assoc, length-map, length-take-le, map-append}
use Rattle.std.proofs.lemmas.Option.{slice_get_within}
use Rattle.std.proofs.lemmas.List.Elements.{All-contains, All-head, All-nil, All-tail, All-take, Contains-get_or}
use Rattle.textarea_calls.specs.Possible.{CanBeMade}
use Rattle.textarea_calls.specs.declared.action.Action.{Action}
use Rattle.textarea_calls.specs.declared.action.Action.TheVariants as action
use Rattle.textarea_calls.specs.declared.answer.Answer.{Answer}
use Rattle.textarea_calls.specs.declared.call.Call.{Call}
use Rattle.textarea_calls.specs.declared.call.Call.TheVariants as call
use Rattle.textarea_data.specs.declared.range.AtomicRange.{AtomicRange}
use Rattle.textarea_ranges.specs.Moved.{Disturbs, moved_range, moved_ranges}
use Rattle.textarea_ranges.proofs.Moving.{dropped}
use Rattle.textarea_screen.specs.declared.screen.buffer.Buffer.{Buffer}
use Rattle.textarea_text.specs.Splice.{CanApply, Splice, applied}
use Rattle.textarea_document.specs.DocumentState.{DocumentState}
use Rattle.textarea_document.specs.Covered.{CoversNoMore}
use Rattle.textarea_document.specs.RangesOverSplices.{IsCarriedTo, IsDroppedBy, RangesFollowPast, RangesFollowSplices, RangesStayWhole, SplitNoRange, carried_range, ranges_over}
use Rattle.textarea_document.specs.Sound.{IsSound}
use Rattle.textarea_document.specs.Splices.{selected_splices}
use Rattle.textarea_document.proofs.RangesOverSplices.{all_stay_or_are_dropped, all_stem, follows_unless_remembered, only_removed, ranges_follow_on, stays}
use Rattle.tui_textarea.specs.CallResults.{CallResult, Done, call_result}
use Rattle.tui_textarea.specs.CallSplices.{CallSplice, LeadsBy, OfEdit, OfSplicesOutOfMemory, OfUndoOrRedo, marked_by, marked_splices, splices_of, underlying}
use Rattle.tui_textarea.specs.Input.{asked_by, asked_without_shortcuts}
use Rattle.tui_textarea.specs.Outcomes.{IsAfterCall, IsAfterOutOfMemory, IsResultOf}
use Rattle.tui_textarea.specs.RangesOverActions.{RangesFollowAction}
use Rattle.tui_textarea.specs.RangesOverCalls.{AllKeepWhole, Drops, IsUndoOrRedo, IsUndoOrRedoAct, KeepsWhole, NoneReplacesRanges, NoneSetsRanges, OneDrops, RangesAfterSplices, RangesFollowCall, RangesInRun, RangesOfRun, RangesOverCall}
use Rattle.tui_textarea.specs.RangesOverCalls.{RangesOverCalls, ReplacesRanges, SetsRanges, SinceRangesReplaced, SinceRangesSet}
use Rattle.tui_textarea.specs.Run.{CallLeads, Leads, Run}
use Rattle.tui_textarea.specs.State.{State}
use Rattle.tui_textarea.proofs.Runs.{Leads-append}

-- ---- the laws of the text area

-- how the ranges move over each call, and over one that runs out of memory; and that calls keep the
-- invariant of documents
pub record TheLaws : Type 0 where
  pub follow : (old new : State) (made : Call) (returned : CallResult) → IsSound old.document → IsResultOf old made returned → IsAfterCall old made returned new → RangesFollowCall old made returned new
  pub left : (old new : State) (made : Call) → IsSound old.document → IsAfterOutOfMemory old made new → OfSplicesOutOfMemory old (λ splices. RangesStayWhole old.document splices new.document)
  pub sound : (old new : State) (made : Call) (returned : CallResult) → IsSound old.document → CanBeMade made → IsAfterCall old made returned new → IsSound new.document
  pub covers : (old new : State) (made : Call) (returned : CallResult) → IsSound old.document → ¬ SetsRanges made returned → IsResultOf old made returned → IsAfterCall old made returned new → CoversNoMore old.document new.document
  pub covers_left : (old new : State) (made : Call) → IsSound old.document → IsAfterOutOfMemory old made new → CoversNoMore old.document new.document

-- ---- the splices of a call

of_edits : (splices : List Splice) → map underlying (map OfEdit splices) ≡ splices
of_edits [] = refl
of_edits (splice ∷ splices) = ap (λ (rest : List Splice). splice ∷ rest) (of_edits splices)

of_past : (splices : List Splice) → map underlying (map OfUndoOrRedo splices) ≡ splices
of_past [] = refl
of_past (splice ∷ splices) = ap (λ (rest : List Splice). splice ∷ rest) (of_past splices)

of_action : (asked : Action) (splices : List Splice) → map underlying (marked_by asked splices) ≡ splices
of_action action.Undo splices = of_past splices
of_action action.Redo splices = of_past splices
of_action asked splices = of_edits splices

of_call : (state : State) (made : Call) → map underlying (marked_splices state made) ≡ splices_of state made
of_call state call.Undo = of_past (splices_of state call.Undo)
of_call state call.Redo = of_past (splices_of state call.Redo)
of_call state (call.Input input) = of_action (asked_by input.now) (splices_of state (call.Input input))
of_call state (call.InputWithoutShortcuts input) = of_action (asked_without_shortcuts input.now) (splices_of state (call.InputWithoutShortcuts input))
of_call state made = of_edits (splices_of state made)

-- ---- what splits no range

edits_keep : (ranges : List AtomicRange) (splices : List Splice) → SplitNoRange ranges splices → AllKeepWhole ranges (map OfEdit splices)
edits_keep ranges [] h = tt
edits_keep ranges (splice ∷ splices) h = (h.0, edits_keep (moved_ranges ranges splice) splices h.1)

past_keeps : (ranges : List AtomicRange) (splices : List Splice) → AllKeepWhole ranges (map OfUndoOrRedo splices)
past_keeps ranges [] = tt
past_keeps ranges (splice ∷ splices) = (tt, past_keeps (moved_ranges ranges splice) splices)

keep_on : (ranges : List AtomicRange) (first second : List CallSplice) → AllKeepWhole ranges first → AllKeepWhole (ranges_over ranges (map underlying first)) second → AllKeepWhole ranges (first ++ second)
keep_on ranges [] second h k = k
keep_on ranges (made ∷ first) second h k = (h.0, keep_on (moved_ranges ranges (underlying made)) first second h.1 k)

-- the splices lead from one document to the other, whose ranges follow, and only those of undo and
-- redo may split one
record Goes (old : DocumentState) (splices : List CallSplice) (new : DocumentState) : Type 0 where
  follow : RangesFollowSplices old (map underlying splices) new
  whole : AllKeepWhole old.ranges splices

goes_nowhere : (document : DocumentState) → Goes document [] document
goes_nowhere document = record { follow = (stays document document refl refl).0; whole = tt }

goes_on : (old between new : DocumentState) (first second : List CallSplice) → Goes old first between → Goes between second new → Goes old (first ++ second) new
goes_on old between new first second h k = record {
  follow = subst (λ (splices : List Splice). RangesFollowSplices old splices new) (sym (map-append underlying first second))
      (ranges_follow_on old between new (map underlying first) (map underlying second) h.follow k.follow);
  whole = keep_on old.ranges first second h.whole (subst (λ (ranges : List AtomicRange). AllKeepWhole ranges second) h.follow.ranges k.whole);
}

goes_by_edits : (old new : DocumentState) (splices : List Splice) → RangesStayWhole old splices new → Goes old (map OfEdit splices) new
goes_by_edits old new splices h = record {
  follow = subst (λ (s : List Splice). RangesFollowSplices old s new) (sym (of_edits splices)) h.0;
  whole = edits_keep old.ranges splices h.1;
}

-- no ranges are remembered, unless the action is neither an undo nor a redo
goes_by_past : (old new : DocumentState) (splices : List Splice) → old.past_ranges.before ≡ [] → RangesFollowPast old splices new → Goes old (map OfUndoOrRedo splices) new
goes_by_past old new splices none h = record {
  follow = subst (λ (s : List Splice). RangesFollowSplices old s new) (sym (of_past splices)) (follows_unless_remembered old new splices none h);
  whole = past_keeps old.ranges splices;
}

goes_by_action : (asked : Action) (old new : DocumentState) (splices : List Splice) → (IsUndoOrRedoAct asked → old.past_ranges.before ≡ []) → RangesFollowAction asked old splices new → Goes old (marked_by asked splices) new
goes_by_action action.Undo old new splices none h = goes_by_past old new splices (none tt) h
goes_by_action action.Redo old new splices none h = goes_by_past old new splices (none tt) h
goes_by_action asked old new splices none h = goes_by_edits old new splices h

-- a call that does not set the ranges, and is no undo or redo while some are remembered
record IsFree (old : State) (made : Call) (returned : CallResult) : Type 0 where
  sets_none : ¬ SetsRanges made returned
  none_remembered : IsUndoOrRedo made → old.document.past_ranges.before ≡ []

goes_by_call : (old new : State) (made : Call) (returned : CallResult) → IsFree old made returned → RangesFollowCall old made returned new → Goes old.document (marked_splices old made) new.document
goes_by_call old new call.Undo returned free h = goes_by_past old.document new.document (splices_of old call.Undo) (free.none_remembered tt) h
goes_by_call old new call.Redo returned free h = goes_by_past old.document new.document (splices_of old call.Redo) (free.none_remembered tt) h
goes_by_call old new (call.Input input) returned free h = goes_by_action (asked_by input.now) old.document new.document _ free.none_remembered h
goes_by_call old new (call.InputWithoutShortcuts input) returned free h = goes_by_action (asked_without_shortcuts input.now) old.document new.document _ free.none_remembered h
goes_by_call old new (call.SetLines lines cursor) returned free h = absurd (free.sets_none tt)
goes_by_call old new call.ClearAtomicRanges returned free h = absurd (free.sets_none tt)
goes_by_call old new (call.TrySetAtomicRanges ranges) Done free h = absurd (free.sets_none tt)
goes_by_call old new made returned free h = goes_by_edits old.document new.document (splices_of old made) h

-- ---- what drops a range

-- the document with its text and ranges after a splice
abbrev spliced : DocumentState → Splice → DocumentState
spliced document splice = record document { text = applied document.text splice; ranges = moved_ranges document.ranges splice }

-- a range, as the splices move it, is still there, or one of them drops it
abbrev StaysOrIsDropped : DocumentState → List CallSplice → AtomicRange → Type 0
StaysOrIsDropped document splices range =
    ((carried : AtomicRange) × (carried_range (Some range) (map underlying splices) ≡ Some carried) × Contains (ranges_over document.ranges (map underlying splices)) carried)
    ⊎ OneDrops splices range

one_stays : (document : DocumentState) (splice : Splice) (range : AtomicRange) → CanApply document.text (splice ∷ []) → Contains document.ranges range
    → IsCarriedTo range (splice ∷ []) (spliced document splice) ⊎ IsDroppedBy range (splice ∷ [])
one_stays document splice range can stored =
    let new = spliced document splice in
    let follow : RangesFollowSplices document (splice ∷ []) new = record { text = record { can = can; leads = refl }; ranges = refl } in
    All-contains (λ r. IsCarriedTo r (splice ∷ []) new ⊎ IsDroppedBy r (splice ∷ [])) document.ranges range (all_stay_or_are_dropped document new (splice ∷ []) follow) stored

-- without a splice a range stays as it is
carried_here : (found : Option AtomicRange) → carried_range found [] ≡ found
carried_here None = refl
carried_here (Some range) = refl

drops_by : (ranges : List AtomicRange) (made : CallSplice) (range : AtomicRange) → KeepsWhole ranges made → Contains ranges range → Disturbs (underlying made) range → Drops made range
drops_by ranges (OfUndoOrRedo splice) range whole stored disturbs = disturbs
drops_by ranges (OfEdit splice) range whole stored disturbs = only_removed ranges splice range whole stored ((dropped splice range).1 disturbs)

stays_or_dropped : (document : DocumentState) (splices : List CallSplice) (range : AtomicRange) → CanApply document.text (map underlying splices)
    → AllKeepWhole document.ranges splices → Contains document.ranges range → StaysOrIsDropped document splices range
stays_or_dropped document [] range can whole stored = inl (range, refl, stored)
stays_or_dropped document (made ∷ rest) range can whole stored =
    let splice = underlying made in
    elim (one_stays document splice range (can.0, tt) stored) [
      | inl on ↦ later on.0 (sym (carried_here (moved_range splice range)) ∙ on.1) (stays_or_dropped (spliced document splice) rest on.0 can.1 whole.1 on.2)
      | inr gone ↦ elim gone [
        | inl disturbs ↦ inr (inl (drops_by document.ranges made range whole.0 stored disturbs))
        | inr never ↦ absurd never.2
      ]
    ]
  where
    later : (carried : AtomicRange) → moved_range (underlying made) range ≡ Some carried → StaysOrIsDropped (spliced document (underlying made)) rest carried → StaysOrIsDropped document (made ∷ rest) range
    later carried moved (inl on) = inl (on.0, ap (λ (o : Option AtomicRange). carried_range o (map underlying rest)) moved ∙ on.1, on.2)
    later carried moved (inr gone) = inr (inr (carried, moved, gone))

ranges_go : (first last : DocumentState) (splices : List CallSplice) → IsSound first → Goes first splices last → RangesAfterSplices first splices last
ranges_go first last splices sound h = record {
  ranges_follow = h.follow;
  stem = all_stem first last (map underlying splices) sound h.follow;
  whole = h.whole;
  dropped = λ k d within. held (get_or first.ranges k d) (Contains-get_or first.ranges k d within);
}
  where
    held : (range : AtomicRange) → Contains first.ranges range → IsCarriedTo range (map underlying splices) last ⊎ OneDrops splices range
    held range stored =
        elim (stays_or_dropped first splices range h.follow.text.can h.whole stored) [
          | inl on ↦ inl (on.0, on.1, subst (λ (r : List AtomicRange). Contains r on.0) (sym h.follow.ranges) on.2)
          | inr gone ↦ inr gone
        ]

-- ---- a run so far

gives_or_not : (made : Call) (returned : CallResult) → SetsRanges made returned ⊎ (¬ SetsRanges made returned)
gives_or_not (call.TrySetAtomicRanges ranges) Done = inl tt
gives_or_not call.ClearAtomicRanges returned = inl tt
gives_or_not (call.SetLines lines cursor) returned = inl tt
gives_or_not made returned = inr (λ h. h)

past_or_not : (asked : Action) → IsUndoOrRedoAct asked ⊎ (¬ IsUndoOrRedoAct asked)
past_or_not action.Undo = inl tt
past_or_not action.Redo = inl tt
past_or_not asked = inr (λ h. h)

undoes_or_not : (made : Call) → IsUndoOrRedo made ⊎ (¬ IsUndoOrRedo made)
undoes_or_not call.Undo = inl tt
undoes_or_not call.Redo = inl tt
undoes_or_not (call.Input input) = past_or_not (asked_by input.now)
undoes_or_not (call.InputWithoutShortcuts input) = past_or_not (asked_without_shortcuts input.now)
undoes_or_not made = inr (λ h. h)

remembered_or_not : (before : List (List AtomicRange)) → (before ≡ []) ⊎ (before ≢ [])
remembered_or_not [] = inl refl
remembered_or_not (ranges ∷ before) = inr (λ e. cc)

replaces_or_not : (old : State) (made : Call) (returned : CallResult) → ReplacesRanges old made returned ⊎ IsFree old made returned
replaces_or_not old made returned =
    elim (gives_or_not made returned) [
      | inl gives ↦ inl (inl gives)
      | inr none ↦ elim (undoes_or_not made) [
        | inl undoes ↦ elim (remembered_or_not old.document.past_ranges.before) [
          | inl nothing ↦ inr (record { sets_none = none; none_remembered = λ k. nothing })
          | inr some ↦ inl (inr (undoes, some))
        ]
        | inr other ↦ inr (record { sets_none = none; none_remembered = λ k. absurd (other k) })
      ]
    ]

never_both : (old : State) (made : Call) (returned : CallResult) → IsFree old made returned → ¬ ReplacesRanges old made returned
never_both old made returned free (inl gives) = free.sets_none gives
never_both old made returned free (inr back) = back.1 (free.none_remembered back.0)

NoneReplacesRanges-append : (old mid new : State) (buffer screen displayed : Buffer) (calls : List Call) (results : List CallResult) (made : Call) (returned : CallResult)
    → NoneReplacesRanges old buffer calls results mid screen → CallLeads mid screen made returned new displayed → ¬ ReplacesRanges mid made returned
    → NoneReplacesRanges old buffer (calls ++ made ∷ []) (results ++ returned ∷ []) new displayed
NoneReplacesRanges-append old mid new buffer screen displayed [] [] made returned none makes free = (
  new,
  displayed,
  subst (λ (b : Buffer). CallLeads old b made returned new displayed) none.1 (subst (λ (s : State). CallLeads s screen made returned new displayed) none.0 makes),
  subst (λ (s : State). ¬ ReplacesRanges s made returned) none.0 free,
  (refl, refl),
)
NoneReplacesRanges-append old mid new buffer screen displayed [] (a ∷ results) made returned none makes free = absurd none
NoneReplacesRanges-append old mid new buffer screen displayed (first ∷ calls) [] made returned none makes free = absurd none
NoneReplacesRanges-append old mid new buffer screen displayed (first ∷ calls) (a ∷ results) made returned none makes free = (
  none.0,
  none.1,
  none.2,
  none.3,
  NoneReplacesRanges-append none.0 mid new none.1 screen displayed calls results made returned none.4 makes free,
)

NoneSetsRanges-append : (calls : List Call) (results : List CallResult) (made : Call) (returned : CallResult) → NoneSetsRanges calls results → ¬ SetsRanges made returned → NoneSetsRanges (calls ++ made ∷ []) (results ++ returned ∷ [])
NoneSetsRanges-append [] [] made returned h none = (none, tt)
NoneSetsRanges-append [] (a ∷ results) made returned h none = absurd h
NoneSetsRanges-append (c ∷ calls) [] made returned h none = absurd h
NoneSetsRanges-append (c ∷ calls) (a ∷ results) made returned h none = (h.0, NoneSetsRanges-append calls results made returned h.1 none)

LeadsBy-append : (old mid new : State) (buffer screen displayed : Buffer) (calls : List Call) (results : List CallResult) (splices : List CallSplice) (made : Call) (returned : CallResult)
    → LeadsBy old buffer calls results splices mid screen → CallLeads mid screen made returned new displayed
    → LeadsBy old buffer (calls ++ made ∷ []) (results ++ returned ∷ []) (splices ++ marked_splices mid made) new displayed
LeadsBy-append old mid new buffer screen displayed [] [] splices made returned so_far makes = (
  new,
  displayed,
  [],
  ap (λ (l : List CallSplice). l ++ marked_splices mid made) so_far.0 ∙ ap (λ (s : State). marked_splices s made) so_far.1 ∙ sym (append-nil (marked_splices old made)),
  subst (λ (b : Buffer). CallLeads old b made returned new displayed) so_far.2 (subst (λ (s : State). CallLeads s screen made returned new displayed) so_far.1 makes),
  (refl, refl, refl),
)
LeadsBy-append old mid new buffer screen displayed [] (a ∷ results) splices made returned so_far makes = absurd so_far
LeadsBy-append old mid new buffer screen displayed (first ∷ calls) [] splices made returned so_far makes = absurd so_far
LeadsBy-append old mid new buffer screen displayed (first ∷ calls) (a ∷ results) splices made returned so_far makes = (
  so_far.0,
  so_far.1,
  so_far.2 ++ marked_splices mid made,
  ap (λ (l : List CallSplice). l ++ marked_splices mid made) so_far.3 ∙ append_assoc (marked_splices old first) so_far.2 (marked_splices mid made),
  so_far.4,
  LeadsBy-append so_far.0 mid new so_far.1 screen displayed calls results so_far.2 made returned so_far.5 makes,
)

-- the facts of a run so far: since when the ranges move with the text, and that they do
record SoFar (old : State) (buffer : Buffer) (calls : List Call) (results : List CallResult) (newest : State) (displayed : Buffer) : Type 0 where
  led : Leads old buffer calls results newest displayed
  since : SinceRangesReplaced old buffer calls results newest displayed
  goes : Goes since.then.document since.splices newest.document
  since_set : SinceRangesSet old buffer calls results newest displayed
  covers : CoversNoMore since_set.then.document newest.document
  sound : IsSound since.then.document
  sound_now : IsSound newest.document

-- before any call
at_start : (old : State) (buffer : Buffer) → IsSound old.document → SoFar old buffer [] [] old buffer
at_start old buffer sound = record {
  led = (refl, refl);
  since = record {
    until = [];
    later = [];
    calls_are = refl;
    results_until = [];
    results_later = [];
    results_are = refl;
    then = old;
    screen = buffer;
    led = (refl, refl);
    replaced = inl refl;
    none_later = (refl, refl);
    splices = [];
    led_on = (refl, refl, refl);
  };
  goes = goes_nowhere old.document;
  since_set = record {
    until = [];
    later = [];
    calls_are = refl;
    results_until = [];
    results_later = [];
    results_are = refl;
    then = old;
    screen = buffer;
    led = (refl, refl);
    ranges_set = inl refl;
    none_later = tt;
    led_on = (refl, refl);
  };
  covers = λ characters stored. stored;
  sound = sound;
  sound_now = sound;
}

-- since when ranges were set, after one more call
record SetSoFar (old : State) (buffer : Buffer) (calls : List Call) (results : List CallResult) (newest : State) (displayed : Buffer) : Type 0 where
  since : SinceRangesSet old buffer calls results newest displayed
  covers : CoversNoMore since.then.document newest.document

set_on : (old mid new : State) (buffer screen displayed : Buffer) (calls : List Call) (results : List CallResult) (made : Call) (returned : CallResult)
    → CallLeads mid screen made returned new displayed → SetsRanges made returned ⊎ ((¬ SetsRanges made returned) × CoversNoMore mid.document new.document)
    → SoFar old buffer calls results mid screen → SetSoFar old buffer (calls ++ made ∷ []) (results ++ returned ∷ []) new displayed
set_on old mid new buffer screen displayed calls results made returned makes (inl gives) h =
    let led = Leads-append old mid new buffer screen displayed calls results made returned h.led makes in
    record {
      since = record {
        until = calls ++ made ∷ [];
        later = [];
        calls_are = sym (append-nil (calls ++ made ∷ []));
        results_until = results ++ returned ∷ [];
        results_later = [];
        results_are = sym (append-nil (results ++ returned ∷ []));
        then = new;
        screen = displayed;
        led = led;
        ranges_set = inr (record { front = calls; last = made; calls_are = refl; before = results; returned = returned; results_are = refl; gives = gives });
        none_later = tt;
        led_on = (refl, refl);
      };
      covers = λ characters stored. stored;
    }
set_on old mid new buffer screen displayed calls results made returned makes (inr more) h =
    let since = h.since_set in
    record {
      since = record {
        until = since.until;
        later = since.later ++ made ∷ [];
        calls_are = ap (λ (c : List Call). c ++ made ∷ []) since.calls_are ∙ append_assoc since.until since.later (made ∷ []);
        results_until = since.results_until;
        results_later = since.results_later ++ returned ∷ [];
        results_are = ap (λ (a : List CallResult). a ++ returned ∷ []) since.results_are ∙ append_assoc since.results_until since.results_later (returned ∷ []);
        then = since.then;
        screen = since.screen;
        led = since.led;
        ranges_set = since.ranges_set;
        none_later = NoneSetsRanges-append since.later since.results_later made returned since.none_later more.0;
        led_on = Leads-append since.then mid new since.screen screen displayed since.later since.results_later made returned since.led_on makes;
      };
      covers = λ characters stored. h.covers characters (more.1 characters stored);
    }

-- a call that may replace the ranges
replaced_again : (old mid new : State) (buffer screen displayed : Buffer) (calls : List Call) (results : List CallResult) (made : Call) (returned : CallResult)
    → IsSound new.document → SoFar old buffer calls results mid screen → CallLeads mid screen made returned new displayed → ReplacesRanges mid made returned
    → SetSoFar old buffer (calls ++ made ∷ []) (results ++ returned ∷ []) new displayed → SoFar old buffer (calls ++ made ∷ []) (results ++ returned ∷ []) new displayed
replaced_again old mid new buffer screen displayed calls results made returned sound h makes gives set = record {
  led = Leads-append old mid new buffer screen displayed calls results made returned h.led makes;
  since = record {
    until = calls ++ made ∷ [];
    later = [];
    calls_are = sym (append-nil (calls ++ made ∷ []));
    results_until = results ++ returned ∷ [];
    results_later = [];
    results_are = sym (append-nil (results ++ returned ∷ []));
    then = new;
    screen = displayed;
    led = Leads-append old mid new buffer screen displayed calls results made returned h.led makes;
    replaced = inr (record { front = calls; last = made; calls_are = refl; before = results; returned = returned; results_are = refl; prior = mid; screen = screen; led = h.led; gives = gives });
    none_later = (refl, refl);
    splices = [];
    led_on = (refl, refl, refl);
  };
  goes = goes_nowhere new.document;
  since_set = set.since;
  covers = set.covers;
  sound = sound;
  sound_now = sound;
}

-- a call over which the ranges move
gone_on : (old mid new : State) (buffer screen displayed : Buffer) (calls : List Call) (results : List CallResult) (made : Call) (returned : CallResult)
    → CallLeads mid screen made returned new displayed → ¬ ReplacesRanges mid made returned → Goes mid.document (marked_splices mid made) new.document
    → IsSound new.document → SoFar old buffer calls results mid screen → SetSoFar old buffer (calls ++ made ∷ []) (results ++ returned ∷ []) new displayed
    → SoFar old buffer (calls ++ made ∷ []) (results ++ returned ∷ []) new displayed
gone_on old mid new buffer screen displayed calls results made returned makes none on sound h set =
    let since = h.since in
    record {
      led = Leads-append old mid new buffer screen displayed calls results made returned h.led makes;
      since = record {
        until = since.until;
        later = since.later ++ made ∷ [];
        calls_are = ap (λ (c : List Call). c ++ made ∷ []) since.calls_are ∙ append_assoc since.until since.later (made ∷ []);
        results_until = since.results_until;
        results_later = since.results_later ++ returned ∷ [];
        results_are = ap (λ (a : List CallResult). a ++ returned ∷ []) since.results_are ∙ append_assoc since.results_until since.results_later (returned ∷ []);
        then = since.then;
        screen = since.screen;
        led = since.led;
        replaced = since.replaced;
        none_later = NoneReplacesRanges-append since.then mid new since.screen screen displayed since.later since.results_later made returned since.none_later makes none;
        splices = since.splices ++ marked_splices mid made;
        led_on = LeadsBy-append since.then mid new since.screen screen displayed since.later since.results_later since.splices made returned since.led_on makes;
      };
      goes = goes_on since.then.document mid.document new.document since.splices (marked_splices mid made) h.goes on;
      since_set = set.since;
      covers = set.covers;
      sound = h.sound;
      sound_now = sound;
    }

module _ (laws : TheLaws) where
  -- a call sets the ranges, or they cover no more after it
  covers_call : (old new : State) (made : Call) (returned : CallResult) → IsSound old.document → IsResultOf old made returned → IsAfterCall old made returned new
      → SetsRanges made returned ⊎ ((¬ SetsRanges made returned) × CoversNoMore old.document new.document)
  covers_call old new made returned sound answered after =
      elim (gives_or_not made returned) [
        | inl gives ↦ inl gives
        | inr none ↦ inr (none, laws.covers old new made returned sound none answered after)
      ]

  one_more : (old mid new : State) (buffer screen displayed : Buffer) (calls : List Call) (results : List CallResult) (made : Call) (returned : CallResult)
      → CanBeMade made → CallLeads mid screen made returned new displayed → SoFar old buffer calls results mid screen
      → SoFar old buffer (calls ++ made ∷ []) (results ++ returned ∷ []) new displayed
  one_more old mid new buffer screen displayed calls results made returned can makes h =
      let sound = laws.sound mid new made returned h.sound_now can makes.after in
      let on = laws.follow mid new made returned h.sound_now makes.answered makes.after in
      let set = set_on old mid new buffer screen displayed calls results made returned makes (covers_call mid new made returned h.sound_now makes.answered makes.after) h in
      elim (replaces_or_not mid made returned) [
        | inl gives ↦ replaced_again old mid new buffer screen displayed calls results made returned sound h makes gives set
        | inr free ↦ gone_on old mid new buffer screen displayed calls results made returned makes (never_both mid made returned free) (goes_by_call mid new made returned free on) sound h set
      ]

  so_far : (old mid new : State) (buffer screen displayed : Buffer) (before calls : List Call) (given results : List CallResult) → All CanBeMade calls
      → Leads mid screen calls results new displayed → SoFar old buffer before given mid screen
      → SoFar old buffer (before ++ calls) (given ++ results) new displayed
  so_far old mid new buffer screen displayed before [] given [] can led h =
      subst (λ (c : List Call). SoFar old buffer c (given ++ []) new displayed) (sym (append-nil before))
      (subst (λ (r : List CallResult). SoFar old buffer before r new displayed) (sym (append-nil given))
      (subst (λ (s : State). SoFar old buffer before given s displayed) (sym led.0)
      (subst (λ (b : Buffer). SoFar old buffer before given mid b) (sym led.1) h)))
  so_far old mid new buffer screen displayed before [] given (returned ∷ results) can led h = absurd led
  so_far old mid new buffer screen displayed before (made ∷ calls) given [] can led h = absurd led
  so_far old mid new buffer screen displayed before (made ∷ calls) given (returned ∷ results) can led h =
      subst (λ (c : List Call). SoFar old buffer c (given ++ returned ∷ results) new displayed) (append_assoc before (made ∷ []) calls)
      (subst (λ (r : List CallResult). SoFar old buffer ((before ++ made ∷ []) ++ calls) r new displayed) (append_assoc given (returned ∷ []) results)
      (so_far old led.0 new buffer led.1 displayed (before ++ made ∷ []) calls (given ++ returned ∷ []) results (All-tail CanBeMade made calls can) led.3
      (one_more old mid led.0 buffer screen led.1 before given made returned (All-head CanBeMade made calls can) led.2 h)))

  -- ---- each call

  over_call : (old new : State) (made : Call) (returned : CallResult) → IsSound old.document → IsResultOf old made returned → IsAfterCall old made returned new → RangesFollowCall old made returned new → RangesOverCall old made returned new
  over_call old new made returned sound answered after follow = record {
    follow = follow;
    kept = elim (replaces_or_not old made returned) [
      | inl gives ↦ inl gives
      | inr free ↦ inr (ranges_go old.document new.document (marked_splices old made) sound (goes_by_call old new made returned free follow))
    ];
    covers = elim (covers_call old new made returned sound answered after) [
      | inl gives ↦ inl gives
      | inr more ↦ inr more.1
    ];
  }

  over_each : (old new : State) (buffer displayed : Buffer) (calls : List Call) (results : List CallResult) → IsSound old.document → All CanBeMade calls
      → Leads old buffer calls results new displayed → RangesOverCalls old buffer calls results new displayed
  over_each old new buffer displayed [] [] sound can led = led
  over_each old new buffer displayed [] (returned ∷ results) sound can led = absurd led
  over_each old new buffer displayed (made ∷ calls) [] sound can led = absurd led
  over_each old new buffer displayed (made ∷ calls) (returned ∷ results) sound can led =
      let between = led.0 in
      let next = laws.sound old between made returned sound (All-head CanBeMade made calls can) led.2.after in (
        between,
        led.1,
        led.2,
        over_call old between made returned sound led.2.answered led.2.after (laws.follow old between made returned sound led.2.answered led.2.after),
        over_each between new led.1 displayed calls results next (All-tail CanBeMade made calls can) led.3,
      )

  -- ---- a whole run

  ranges_left : (old mid new : State) (buffer screen : Buffer) (calls : List Call) (results : List CallResult) (left : List Splice) → IsSound old.document
      → All CanBeMade calls → Leads old buffer calls results mid screen → (left ≡ []) ⊎ (left ≡ selected_splices mid.document)
      → RangesStayWhole mid.document left new.document → CoversNoMore mid.document new.document → RangesInRun old buffer calls results left new
  ranges_left old mid new buffer screen calls results left sound can led left_are on covers =
      let h = so_far old old mid buffer buffer screen [] calls [] results can led (at_start old buffer sound) in
      record {
        newest = mid;
        displayed = screen;
        each = over_each old mid buffer screen calls results sound can led;
        since = h.since;
        since_set = h.since_set;
        covers = λ characters stored. h.covers characters (covers characters stored);
        left_are = left_are;
        go = ranges_go h.since.then.document new.document (h.since.splices ++ map OfEdit left) h.sound
            (goes_on h.since.then.document mid.document new.document h.since.splices (map OfEdit left) h.goes (goes_by_edits mid.document new.document left on));
      }

  in_run : (old mid new : State) (buffer screen : Buffer) (calls : List Call) (results : List CallResult) → IsSound old.document → All CanBeMade calls
      → Leads old buffer calls results mid screen → OfSplicesOutOfMemory mid (λ splices. RangesStayWhole mid.document splices new.document)
      → CoversNoMore mid.document new.document → (left : List Splice) × RangesInRun old buffer calls results left new
  in_run old mid new buffer screen calls results sound can led on covers =
      elim on [
        | inl none ↦ ([], ranges_left old mid new buffer screen calls results [] sound can led (inl refl) none covers)
        | inr gone ↦ (selected_splices mid.document, ranges_left old mid new buffer screen calls results (selected_splices mid.document) sound can led (inr refl) gone covers)
      ]

  -- the calls that have results
  counted : (old new : State) (buffer : Buffer) (calls made : List Call) (results : List Answer) → take (length results) calls ≡ made
      → (left : List Splice) × RangesInRun old buffer made (map call_result results) left new → RangesOfRun old buffer calls results new
  counted old new buffer calls made results same h =
      (h.0, subst (λ (c : List Call). RangesInRun old buffer c (map call_result results) h.0 new) (sym same) h.1)

  as_many : (old new : State) (buffer displayed : Buffer) (calls : List Call) (results : List CallResult) → Leads old buffer calls results new displayed → length results ≡ length calls
  as_many old new buffer displayed [] [] led = refl
  as_many old new buffer displayed [] (returned ∷ results) led = absurd led
  as_many old new buffer displayed (made ∷ calls) [] led = absurd led
  as_many old new buffer displayed (made ∷ calls) (returned ∷ results) led = ap (λ (n : ℕ). suc n) (as_many led.0 new led.1 displayed calls results led.3)

  unmoved : (state : State) → OfSplicesOutOfMemory state (λ splices. RangesStayWhole state.document splices state.document)
  unmoved state = inl (stays state.document state.document refl refl)

  pub ranges_follow_run : (calls : List Call) (results : List Answer) (refused : Option ℕ) (old new : State) (buffer displayed : Buffer) → IsSound old.document
      → All CanBeMade calls → Run old buffer calls results refused new displayed → RangesOfRun old buffer calls results new
  ranges_follow_run calls results None old new buffer displayed sound can led =
      let many = as_many old new buffer displayed calls (map call_result results) led in
      counted old new buffer calls calls results (take_all (length results) calls (omega (arith, many, length-map results call_result)))
      (in_run old new new buffer displayed calls (map call_result results) sound can led (unmoved new) (λ characters stored. stored))
  ranges_follow_run calls results (Some index) old new buffer displayed sound can ran =
      elim ran [
        | inl never ↦ subst (λ (s : State). RangesOfRun old buffer calls results s) (sym never.state)
            (subst (λ (r : List Answer). RangesOfRun old buffer calls r old) (sym never.answered)
            (counted old old buffer calls [] [] refl (in_run old old old buffer buffer [] [] sound (All-nil CanBeMade) (refl, refl) (unmoved old) (λ characters stored. stored))))
        | inr stops ↦
            let front = take index calls in
            let many = as_many old stops.before buffer stops.screen front (map call_result results) stops.led in
            let within : index ≤ length calls = omega (arith, slice_get_within calls index stops.call stops.here) in
            let count : length results ≡ index = omega (arith, many, length-map results call_result, length-take-le index calls within) in
            let sound_then = (so_far old old stops.before buffer buffer stops.screen [] front [] (map call_result results) (All-take CanBeMade index calls can) stops.led (at_start old buffer sound)).sound_now in
            counted old new buffer calls front results (ap (λ (n : ℕ). take n calls) count)
            (in_run old stops.before new buffer stops.screen front (map call_result results) sound (All-take CanBeMade index calls can) stops.led
            (laws.left stops.before new stops.call sound_then stops.ran_out.left) (laws.covers_left stops.before new stops.call sound_then stops.ran_out.left))
      ]
