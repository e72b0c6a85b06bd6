-- How the atomic ranges move with the text over calls, and where those after a run come from.
use Rattle.std.specs.Prelude.{◌≡◌, ◌≢◌, ◌⊎◌, Bool, true, false, List, [], ◌∷◌, ◌++◌, length, map, take, All, Some}
use Rattle.textarea_text.specs.Place.{end}
use Rattle.textarea_text.specs.Splice.{Splice}
use Rattle.textarea_document.specs.Covered.{CoversNoMore}
use Rattle.textarea_document.specs.RangesOverSplices.{AllStemFrom, IsCarriedTo, RangesFollowPast, RangesFollowSplices, RangesStayWhole}
use Rattle.textarea_document.specs.Ranges.{SplitsNoRange}
use Rattle.textarea_document.specs.Splices.{selected_splices}
use Rattle.textarea_document.specs.DocumentState.{DocumentState}
use Rattle.textarea_data.specs.declared.range.AtomicRange.{AtomicRange}
use Rattle.textarea_ranges.specs.Lookup.{TakesRange}
use Rattle.textarea_ranges.specs.Moved.{Disturbs, moved_range, moved_ranges}
use Rattle.textarea_ranges.specs.Order.{in_order}
use Rattle.textarea_screen.specs.declared.screen.buffer.Buffer.{Buffer}
use Rattle.textarea_calls.specs.declared.action.Action.{Action}
use Rattle.textarea_calls.specs.declared.action.Action.TheVariants as action
use Rattle.tui_textarea.specs.RangesOverActions.{RangesFollowAction}
use Rattle.textarea_text.specs.Text.{lines_of}
use Rattle.tui_textarea.specs.Guards.{bars_lines}
use Rattle.tui_textarea.specs.Input.{asked_by, asked_without_shortcuts}
use Rattle.tui_textarea.specs.State.{State}
use Rattle.tui_textarea.specs.Run.{CallLeads, Leads}
use Rattle.tui_textarea.specs.CallResults.{CallResult, Done, call_result}
use Rattle.tui_textarea.specs.CallSplices.{CallSplice, LeadsBy, OfEdit, OfUndoOrRedo, marked_splices, splices_of, underlying}
use Rattle.textarea_calls.specs.declared.answer.Answer.{Answer}
use Rattle.textarea_calls.specs.declared.call.Call.{Call}
use Rattle.textarea_calls.specs.declared.call.Call.TheVariants.{Undo, Redo, SetLines, TrySetAtomicRanges, ClearAtomicRanges, Input, InputWithoutShortcuts}

-- ---- one call

-- there are no ranges
abbrev pub HoldsNoRange : State → Type 0
HoldsNoRange state = state.document.ranges ≡ []

-- the ranges are replaced by these, sorted, and the text stays
pub record HoldsRanges (old : State) (ranges_set : List AtomicRange) (new : State) : Type 0 where
  pub text : new.document.text ≡ old.document.text
  pub ranges : new.document.ranges ≡ in_order ranges_set

-- no range is left, or the text and its ranges stay where the lines are left out
abbrev pub NoRangeUnless : Bool → State → State → Type 0
NoRangeUnless true old new = RangesStayWhole old.document [] new.document
NoRangeUnless false old new = HoldsNoRange new

-- The call's splices lead from the old text to the new one, none if nothing is edited, and the
-- ranges move with the text, over an undo or a redo if none are remembered; only the splices of these
-- may split a range. New lines, unless they are left out, and the call that clears leave no range, and
-- ranges that are set replace the old ones.
abbrev pub RangesFollowCall : State → Call → CallResult → State → Type 0
RangesFollowCall old Undo returned new = RangesFollowPast old.document (splices_of old Undo) new.document
RangesFollowCall old Redo returned new = RangesFollowPast old.document (splices_of old Redo) new.document
RangesFollowCall old (Input input) returned new = RangesFollowAction (asked_by input.now) old.document (splices_of old (Input input)) new.document
RangesFollowCall old (InputWithoutShortcuts input) returned new = RangesFollowAction (asked_without_shortcuts input.now) old.document (splices_of old (InputWithoutShortcuts input)) new.document
RangesFollowCall old (SetLines lines cursor) returned new = NoRangeUnless (bars_lines old (lines_of lines.now)) old new
RangesFollowCall old ClearAtomicRanges returned new = HoldsNoRange new
RangesFollowCall old (TrySetAtomicRanges ranges) Done new = HoldsRanges old ranges.now new
RangesFollowCall old call returned new = RangesStayWhole old.document (splices_of old call) new.document

-- ---- what splits a range, and what drops one

-- the splice splits none of the ranges, unless it is of an undo or a redo
abbrev pub KeepsWhole : List AtomicRange → CallSplice → Type 0
KeepsWhole ranges (OfUndoOrRedo splice) = Unit {0}
KeepsWhole ranges (OfEdit splice) = SplitsNoRange ranges splice

-- each of the splices splits none of the ranges at its time, unless it is of an undo or a redo
abbrev pub AllKeepWhole : List AtomicRange → List CallSplice → Type 0
AllKeepWhole ranges [] = Unit {0}
AllKeepWhole ranges (made ∷ rest) = KeepsWhole ranges made × AllKeepWhole (moved_ranges ranges (underlying made)) rest

-- the splice drops the range: one of an undo or a redo if it inserts strictly inside the range or
-- removes some of it, any other if it removes the range completely
abbrev pub Drops : CallSplice → AtomicRange → Type 0
Drops (OfUndoOrRedo splice) range = Disturbs splice range
Drops (OfEdit splice) range = (splice.inserts ≡ false) × TakesRange splice.place (end splice.place splice.symbols) range

-- one of the splices drops the range, as the splices before it move it
abbrev pub OneDrops : List CallSplice → AtomicRange → Type 0
OneDrops [] range = ⊥
OneDrops (made ∷ rest) range =
    Drops made range ⊎ ((carried : AtomicRange) × (moved_range (underlying made) range ≡ Some carried) × OneDrops rest carried)

-- What happens to the ranges of the first document over these splices. They move with the text.
-- Each range of the last document comes from one of them, and covers the same characters, all in
-- one line. Only a splice of an undo or a redo splits one. Each of them is in the last document, as
-- the splices move it, or one of the splices drops it.
pub record RangesAfterSplices (first : DocumentState) (splices : List CallSplice) (last : DocumentState) : Type 0 where
  pub ranges_follow : RangesFollowSplices first (map underlying splices) last
  pub stem : AllStemFrom first (map underlying splices) last
  pub whole : AllKeepWhole first.ranges splices
  pub dropped : All (λ range. IsCarriedTo range (map underlying splices) last ⊎ OneDrops splices range) first.ranges

-- ---- a run

-- the call sets the ranges: it sets some that are accepted, or clears them, or sets lines, even if they
-- are left out
abbrev pub SetsRanges : Call → CallResult → Type 0
SetsRanges (TrySetAtomicRanges ranges) Done = Unit {0}
SetsRanges ClearAtomicRanges returned = Unit {0}
SetsRanges (SetLines lines cursor) returned = Unit {0}
SetsRanges call returned = ⊥

-- the call is an undo or a redo, which may split a range
abbrev pub IsUndoOrRedoAct : Action → Type 0
IsUndoOrRedoAct action.Undo = Unit {0}
IsUndoOrRedoAct action.Redo = Unit {0}
IsUndoOrRedoAct asked = ⊥

abbrev pub IsUndoOrRedo : Call → Type 0
IsUndoOrRedo Undo = Unit {0}
IsUndoOrRedo Redo = Unit {0}
IsUndoOrRedo (Input input) = IsUndoOrRedoAct (asked_by input.now)
IsUndoOrRedo (InputWithoutShortcuts input) = IsUndoOrRedoAct (asked_without_shortcuts input.now)
IsUndoOrRedo call = ⊥

-- the call, made in this state, may replace the ranges: it sets them, or is an undo or a redo while
-- some are remembered
abbrev pub ReplacesRanges : State → Call → CallResult → Type 0
ReplacesRanges old call returned = SetsRanges call returned ⊎ (IsUndoOrRedo call × (old.document.past_ranges.before ≢ []))

-- over the call the ranges move as above, and its splices do the rest, or it may replace the ranges;
-- unless it sets them, what they cover after it, those that are there and those that are remembered,
-- was covered before
pub record RangesOverCall (old : State) (call : Call) (returned : CallResult) (new : State) : Type 0 where
  pub follow : RangesFollowCall old call returned new
  pub kept : ReplacesRanges old call returned ⊎ RangesAfterSplices old.document (marked_splices old call) new.document
  pub covers : SetsRanges call returned ⊎ CoversNoMore old.document new.document

-- the calls lead with these results from the old state and buffer to the new ones, and over each
-- call its ranges go so
abbrev pub RangesOverCalls : State → Buffer → List Call → List CallResult → State → Buffer → Type 0
RangesOverCalls old buffer [] [] new displayed = (new ≡ old) × (displayed ≡ buffer)
RangesOverCalls old buffer (call ∷ calls) (returned ∷ results) new displayed =
    (between : State) × (screen : Buffer) × CallLeads old buffer call returned between screen
    × RangesOverCall old call returned between × RangesOverCalls between screen calls results new displayed
RangesOverCalls old buffer calls results new displayed = ⊥

-- none of the calls, with these results, sets the ranges
abbrev pub NoneSetsRanges : List Call → List CallResult → Type 0
NoneSetsRanges [] [] = Unit {0}
NoneSetsRanges (call ∷ calls) (returned ∷ results) = (¬ SetsRanges call returned) × NoneSetsRanges calls results
NoneSetsRanges calls results = ⊥

-- none of the calls, which lead with these results from the old state and buffer to the new ones, may
-- replace the ranges
abbrev pub NoneReplacesRanges : State → Buffer → List Call → List CallResult → State → Buffer → Type 0
NoneReplacesRanges old buffer [] [] new displayed = (new ≡ old) × (displayed ≡ buffer)
NoneReplacesRanges old buffer (call ∷ calls) (returned ∷ results) new displayed =
    (between : State) × (screen : Buffer) × CallLeads old buffer call returned between screen
    × (¬ ReplacesRanges old call returned) × NoneReplacesRanges between screen calls results new displayed
NoneReplacesRanges old buffer calls results new displayed = ⊥

-- the last of the calls, with these results, sets the ranges
pub record LastSetsRanges (calls : List Call) (results : List CallResult) : Type 0 where
  pub front : List Call
  pub last : Call
  pub calls_are : calls ≡ front ++ last ∷ []
  pub before : List CallResult
  pub returned : CallResult
  pub results_are : results ≡ before ++ returned ∷ []
  pub gives : SetsRanges last returned

-- the last of the calls, made in this state with these results, may replace the ranges
pub record LastReplacesRanges (old : State) (buffer : Buffer) (calls : List Call) (results : List CallResult) : Type 0 where
  pub front : List Call
  pub last : Call
  pub calls_are : calls ≡ front ++ last ∷ []
  pub before : List CallResult
  pub returned : CallResult
  pub results_are : results ≡ before ++ returned ∷ []
  pub prior : State
  pub screen : Buffer
  pub led : Leads old buffer front before prior screen
  pub gives : ReplacesRanges prior last returned

-- The calls, with these results, lead to the newest state by way of the state after the last call
-- that set the ranges, or of the initial state if there is no such call. From there the later calls
-- lead on.
pub record SinceRangesSet (old : State) (buffer : Buffer) (calls : List Call) (results : List CallResult) (newest : State) (displayed : Buffer) : Type 0 where
  pub until : List Call
  pub later : List Call
  pub calls_are : calls ≡ until ++ later
  pub results_until : List CallResult
  pub results_later : List CallResult
  pub results_are : results ≡ results_until ++ results_later
  pub then : State
  pub screen : Buffer
  pub led : Leads old buffer until results_until then screen
  pub ranges_set : (until ≡ []) ⊎ LastSetsRanges until results_until
  pub none_later : NoneSetsRanges later results_later
  pub led_on : Leads then screen later results_later newest displayed

-- The same by way of the state after the last call that may have replaced the ranges. From there the
-- later calls lead on by these splices.
pub record SinceRangesReplaced (old : State) (buffer : Buffer) (calls : List Call) (results : List CallResult) (newest : State) (displayed : Buffer) : Type 0 where
  pub until : List Call
  pub later : List Call
  pub calls_are : calls ≡ until ++ later
  pub results_until : List CallResult
  pub results_later : List CallResult
  pub results_are : results ≡ results_until ++ results_later
  pub then : State
  pub screen : Buffer
  pub led : Leads old buffer until results_until then screen
  pub replaced : (until ≡ []) ⊎ LastReplacesRanges old buffer until results_until
  pub none_later : NoneReplacesRanges then screen later results_later newest displayed
  pub splices : List CallSplice
  pub led_on : LeadsBy then screen later results_later splices newest displayed

-- What happens to the ranges over calls that lead with these results to the newest state, and then
-- over the splices left by a call that ran out of memory, if there is one. Over each call, those
-- that it finds move with the text, unless it sets ranges, clears them or sets lines, or is an undo or
-- a redo while some are remembered: its splices take each of them completely or not at all and insert
-- strictly inside none, but for those of an undo or a redo; and one is dropped only by a removal that
-- takes it completely, or by an undo or a redo that disturbs it. Each range at the end, and each that
-- is remembered, covers the characters that one of those covered that were set last, or else of those
-- at the start. It comes from one that was there after the last call that may have replaced them.
pub record RangesInRun (old : State) (buffer : Buffer) (calls : List Call) (results : List CallResult) (left : List Splice) (new : State) : Type 0 where
  pub newest : State
  pub displayed : Buffer
  pub each : RangesOverCalls old buffer calls results newest displayed
  pub since : SinceRangesReplaced old buffer calls results newest displayed
  pub left_are : (left ≡ []) ⊎ (left ≡ selected_splices newest.document)
  pub go : RangesAfterSplices since.then.document (since.splices ++ map OfEdit left) new.document
  pub since_set : SinceRangesSet old buffer calls results newest displayed
  pub covers : CoversNoMore since_set.then.document new.document

-- the same over a run, for the calls that have results
abbrev pub RangesOfRun : State → Buffer → List Call → List Answer → State → Type 0
RangesOfRun old buffer calls results new =
    (left : List Splice) × RangesInRun old buffer (take (length results) calls) (map call_result results) left new
