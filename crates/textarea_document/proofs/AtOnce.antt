-- Edits of a document with numbered lines, and the layout to which they lead at once.
use Rattle.std.proofs.Common.{◌≡◌, ◌∙◌, ◌≤◌, ◌<◌, ℕ, zero, suc, ◌-◌, Bool, true, false, if◌then◌else◌, nat_lt, List, [], ◌∷◌, ◌++◌, length, map, reverse, take, drop, length-take, None, refl, sym, ap, subst, arith}
use Rattle.std.proofs.lemmas.Bool.Decides.{nat_tests}
use Rattle.std.proofs.lemmas.List.{length-map, take-append-drop}
use Rattle.textarea_data.specs.declared.range.AtomicCursorBias.TheVariants.{Forward}
use Rattle.textarea_history.specs.Groups.{is_open}
use Rattle.textarea_history.specs.Log.{group_ended}
use Rattle.textarea_ranges.proofs.LookupLemmas.{IsPlaceOf-moved_out}
use Rattle.textarea_text.proofs.TextPlaces.{IsPlace-end}
use Rattle.textarea_lines.specs.LineWraps.{WrapsForSplices}
use Rattle.textarea_document.specs.Prelude.{CanApply, DocumentState, EditStep, HasEffect, Insert, IsChangedFrom, IsPlace, IsSound, IsSoundInside, Place, Remove, SplicedAtOnce, SplicedBy, Splice, Symbol, TextAndLayout}
use Rattle.textarea_document.specs.Prelude.{WrapsAtOnce, after_move, after_redo, after_undo, applied, applied_all, applied_each, applied_to, between_removed, edit_redone, edit_undone, end, insertion_place, inverse, is_before, layout_at_once, lines}
use Rattle.textarea_document.specs.Prelude.{lines_numbered, made_at_once, newest_group, next_group, numbered, place_of, redo_splices, splice_of_step, stepped, symbols_inserted, text_and_layout, times, times_at_once, undo_splices}
use Rattle.textarea_document.specs.Prelude.{wrapped_at_once, wrapped_once}
use Rattle.textarea_document.specs.Replacing.{ahead_end, ahead_replaced, ahead_start, all_replaced, all_splices, begun, begun_at_start, each_replaced, each_splices, ended_after, replaced_in_turn, stretch_removal, stretch_removed}
use Rattle.textarea_document.specs.Replacing.{stretch_replaced, stretch_splices}
use Rattle.textarea_document.specs.Splices.{insertion_splices, removal_splices}
use Rattle.textarea_document.proofs.DocumentWraps.{SplicesWrap, wraps_on}
use Rattle.textarea_document.proofs.Layouts.{all_relaid, each_same}
use Rattle.textarea_document.proofs.Orders.{index_before}
use Rattle.textarea_document.proofs.RangesOverSplices.{CanApply-append}
use Rattle.textarea_document.proofs.Sounds.{resound, sound_begun, sound_edited, sound_ended, sound_inside, sound_otherwise, start_is_place}
use Rattle.textarea_document.proofs.StepLaw.{step_keeps}
use Rattle.textarea_document.proofs.UndoGroups.{GoesOn, over_redos, over_undos}
use Rattle.textarea_document.proofs.WrapsOnce.{OneList, wraps_few}

-- ---- splices of the text and its layout, one after another

-- the splices fit, and lead from the one document's text and layout to the other's
abbrev pub Applies : DocumentState → List Splice → DocumentState → Type 0
Applies old splices new = CanApply old.text splices × (text_and_layout new ≡ applied_each (text_and_layout old) splices)

applied_each-append : (text_layout : TextAndLayout) (first second : List Splice) → applied_each text_layout (first ++ second) ≡ applied_each (applied_each text_layout first) second
applied_each-append text_layout [] second = refl
applied_each-append text_layout (splice ∷ first) second = applied_each-append (applied_to text_layout splice) first second

applied_text : (text_layout : TextAndLayout) (splices : List Splice) → (applied_each text_layout splices).text ≡ applied_all text_layout.text splices
applied_text text_layout [] = refl
applied_text text_layout (splice ∷ splices) = applied_text (applied_to text_layout splice) splices

applies_nothing : (document : DocumentState) → Applies document [] document
applies_nothing document = (tt, refl)

applies_on : GoesOn Applies
applies_on document splice log ranges rest new fits moved later = ((fits, later.0), later.1)

-- ---- replacements, one after another

-- the same, and the new document is sound
abbrev Keeps : DocumentState → List Splice → DocumentState → Type 0
Keeps old splices new = Applies old splices new × IsSound new

then_keeps : (old between new : DocumentState) (first second : List Splice) → Keeps old first between → (IsSound between → Keeps between second new) → Keeps old (first ++ second) new
then_keeps old between new first second h k =
    let after = k h.1 in
    let text : between.text ≡ applied_all old.text first = ap (λ (t : TextAndLayout). t.text) h.0.1 ∙ applied_text (text_and_layout old) first in (
      (
        CanApply-append old.text first second h.0.0 (subst (λ t. CanApply t second) text after.0.0),
        after.0.1 ∙ ap (λ (t : TextAndLayout). applied_each t second) h.0.1 ∙ sym (applied_each-append (text_and_layout old) first second),
      ),
      after.1,
    )

step_applies : (document : DocumentState) (step : EditStep) (now : ℕ) → IsSound document → HasEffect document step → Keeps document (splice_of_step document step ∷ []) (stepped document step false now)
step_applies document step now h made =
    let keeps = step_keeps document step h made in
    (((keeps.0, tt), refl), sound_edited document (splice_of_step document step) false now h keeps.0)

removed_applies : (document : DocumentState) (start stop : Place) (now : ℕ) → IsSound document → IsPlace document.text start → IsPlace document.text stop
    → Keeps document (stretch_removal document start stop) (stretch_removed document start stop now)
unfolding stretch_removed between_removed
removed_applies document start stop now h at to = by (is_before start stop) refl
  where
    by : (b : Bool) → is_before start stop ≡ b
        → Keeps document (if b then removal_splices document start stop else []) (if b then between_removed document start stop now else after_move document start None)
    by true e = step_applies document (Remove start stop) now h (at, to, index_before document.text start stop at to e)
    by false e = (applies_nothing document, sound_otherwise document document.layout start None false document.log.group document.changes h at tt)

inserted_applies : (document : DocumentState) (symbols : List Symbol) (now : ℕ) → IsSound document → Keeps document (insertion_splices document symbols) (symbols_inserted document symbols now)
inserted_applies document [] now h = (
  applies_nothing document,
  sound_otherwise document document.layout (insertion_place document) None document.log.run_open document.log.group document.changes h
      (IsPlaceOf-moved_out (lines document.text) document.ranges document.cursor Forward h.ranges h.cursor) tt,
)
inserted_applies document (symbol ∷ symbols) now h = step_applies document (Insert (symbol ∷ symbols)) now h (omega arith)

stretch_applies : (document : DocumentState) (start stop : Place) (symbols : List Symbol) (now : ℕ) → IsSound document → IsPlace document.text start → IsPlace document.text stop
    → Keeps document (stretch_splices document start stop symbols now) (stretch_replaced document start stop symbols now)
unfolding stretch_splices stretch_replaced
stretch_applies document start stop symbols now h at to =
    let between = stretch_removed document start stop now in
    then_keeps document between (symbols_inserted between symbols now) (stretch_removal document start stop) (insertion_splices between symbols)
    (removed_applies document start stop now h at to) (λ left. inserted_applies between symbols now left)

-- an index as a position
index_is_place : (text : List Symbol) (index : ℕ) → IsPlace text (place_of text index)
index_is_place text index =
    subst (λ t. IsPlace t (end (0, 0) (take index text))) (take-append-drop index text) (IsPlace-end (take index text) (drop index text))

ahead_applies : (document : DocumentState) (skip count : ℕ) (symbols : List Symbol) (now : ℕ) → IsSound document
    → Keeps document (stretch_splices document (ahead_start document skip) (ahead_end document skip count) symbols now) (ahead_replaced document skip count symbols now)
unfolding ahead_replaced
ahead_applies document skip count symbols now h =
    stretch_applies document (ahead_start document skip) (ahead_end document skip count) symbols now h (index_is_place document.text _) (index_is_place document.text _)

each_applies : (document : DocumentState) (passed : ℕ) (stretches : List (ℕ × ℕ)) (symbols : List Symbol) (now : ℕ) → IsSound document
    → Keeps document (each_splices document passed stretches symbols now) (each_replaced document passed stretches symbols now)
each_applies document passed [] symbols now h = (applies_nothing document, h)
each_applies document passed (stretch ∷ rest) symbols now h =
    let skip = stretch.0 - passed in
    let count = stretch.1 - stretch.0 in
    let after = ahead_replaced document skip count symbols now in
    then_keeps document after (each_replaced after stretch.1 rest symbols now)
    (stretch_splices document (ahead_start document skip) (ahead_end document skip count) symbols now) (each_splices after stretch.1 rest symbols now)
    (ahead_applies document skip count symbols now h) (λ left. each_applies after stretch.1 rest symbols now left)

sound_begun_at_start : (document : DocumentState) → IsSound document → IsSound (begun_at_start document)
sound_begun_at_start document h =
    sound_otherwise (begun document) document.layout (0, 0) None false (begun document).log.group document.changes (sound_begun document h) (start_is_place document.text) tt

in_turn_applies : (document : DocumentState) (stretches : List (ℕ × ℕ)) (symbols : List Symbol) (now : ℕ) → IsSound document
    → Applies document (all_splices document stretches symbols now) (replaced_in_turn document stretches symbols now)
in_turn_applies document stretches symbols now h = by (is_open document.log.group)
  where
    start : DocumentState
    start = begun_at_start document

    after : DocumentState
    after = each_replaced start 0 stretches symbols now

    made : Applies document (all_splices document stretches symbols now) after
    made = (each_applies start 0 stretches symbols now (sound_begun_at_start document h)).0

    by : (b : Bool) → Applies document (all_splices document stretches symbols now) (if b then after else record after { log = group_ended after.log })
    by true = made
    by false = made

sound_in_turn : (document : DocumentState) (stretches : List (ℕ × ℕ)) (symbols : List Symbol) (now : ℕ) → IsSound document → IsSound (replaced_in_turn document stretches symbols now)
sound_in_turn document stretches symbols now h = by (is_open document.log.group)
  where
    start : DocumentState
    start = begun_at_start document

    after : DocumentState
    after = each_replaced start 0 stretches symbols now

    sound : IsSound after
    sound = (each_applies start 0 stretches symbols now (sound_begun_at_start document h)).1

    by : (b : Bool) → IsSound (if b then after else record after { log = group_ended after.log })
    by true = sound
    by false = sound_ended after sound

pub sound_replaced : (document : DocumentState) (stretches : List (ℕ × ℕ)) (symbols : List Symbol) (now : ℕ) → IsSound document → IsSound (all_replaced document stretches symbols now)
unfolding all_replaced
sound_replaced document [] symbols now h = h
sound_replaced document (stretch ∷ rest) symbols now h =
    let new = all_replaced document (stretch ∷ rest) symbols now in
    subst IsSound (sym (all_relaid document stretch rest symbols now))
    (resound (replaced_in_turn document (stretch ∷ rest) symbols now) new.layout (sound_in_turn document (stretch ∷ rest) symbols now h))

-- ---- the lines at the end

sound_numbered : (document : DocumentState) → IsSound document → IsSound (lines_numbered document)
sound_numbered document h = resound document (lines_numbered document).layout h

pub changed_from : (document new : DocumentState) (splices : List Splice) → Applies (lines_numbered document) splices new → IsChangedFrom (text_and_layout document) (text_and_layout new)
changed_from document new splices h = record { splices = splices; fit = h.0; leads = h.1 }

abbrev pub WrapsTogether : Type 0
WrapsTogether = (text_layout : TextAndLayout) (splices : List Splice) → CanApply text_layout.text splices → WrapsAtOnce text_layout splices (wrapped_once text_layout (applied_each (numbered text_layout) splices))

wraps_together : WrapsTogether → (document new : DocumentState) (splices : List Splice) → Applies (lines_numbered document) splices new → SplicedAtOnce document splices (wrapped_at_once document new)
unfolding layout_at_once
wraps_together law document new splices h =
    subst (λ (t : TextAndLayout). WrapsAtOnce (text_and_layout document) splices (wrapped_once (text_and_layout document) t)) (sym h.1) (law (text_and_layout document) splices h.0)

-- ---- undo and redo

undos_apply : (count : ℕ) (document : DocumentState) → IsSound document → Applies (lines_numbered document) (map inverse (take count (reverse document.log.done))) (times count edit_undone (lines_numbered document))
undos_apply count document h = over_undos Applies applies_nothing applies_on count (lines_numbered document) (sound_inside (lines_numbered document) (sound_numbered document h))

redos_apply : (count : ℕ) (document : DocumentState) → IsSound document → Applies (lines_numbered document) (take count document.log.undone) (times count edit_redone (lines_numbered document))
redos_apply count document h = over_redos Applies applies_nothing applies_on count (lines_numbered document) (sound_inside (lines_numbered document) (sound_numbered document h))

pub undone_changed : (count : ℕ) (document : DocumentState) → IsSound document → IsChangedFrom (text_and_layout document) (text_and_layout (times count edit_undone (lines_numbered document)))
undone_changed count document h = changed_from document (times count edit_undone (lines_numbered document)) _ (undos_apply count document h)

pub redone_changed : (count : ℕ) (document : DocumentState) → IsSound document → IsChangedFrom (text_and_layout document) (text_and_layout (times count edit_redone (lines_numbered document)))
redone_changed count document h = changed_from document (times count edit_redone (lines_numbered document)) _ (redos_apply count document h)

-- several wrap at once, one as a splice does
by_count : OneList → WrapsTogether → (count : ℕ) (step : DocumentState → DocumentState) (document : DocumentState) (splices : List Splice) → length splices ≤ count
    → Applies (lines_numbered document) splices (times count step (lines_numbered document)) → SplicedBy document splices (times count step document)
    → SplicedAtOnce document splices (times_at_once count step document)
by_count one_list law count step document splices few apart one = by (nat_lt 1 count) refl
  where
    by : (b : Bool) → nat_lt 1 count ≡ b → SplicedAtOnce document splices (if b then made_at_once (times count step) document else times count step document)
    by true e = wraps_together law document (times count step (lines_numbered document)) splices apart
    by false e = wraps_few one_list (text_and_layout document) (text_and_layout (times count step document)) splices (grind (arith, nat_tests)) one

pub undo_wraps : OneList → SplicesWrap → WrapsTogether → (document : DocumentState) → IsSound document → SplicedAtOnce document (undo_splices document) (after_undo document)
undo_wraps one_list cut law document h =
    let count = newest_group document.log in
    let done = reverse document.log.done in
    by_count one_list law count edit_undone document (undo_splices document) (omega (arith, length-map (take count done) inverse, length-take count done)) (undos_apply count document h)
    (over_undos SplicedBy (λ d. refl) (wraps_on cut) count document (sound_inside document h))

pub redo_wraps : OneList → SplicesWrap → WrapsTogether → (document : DocumentState) → IsSound document → SplicedAtOnce document (redo_splices document) (after_redo document)
redo_wraps one_list cut law document h =
    let count = next_group document.log in
    by_count one_list law count edit_redone document (redo_splices document) (omega (arith, length-take count document.log.undone)) (redos_apply count document h)
    (over_redos SplicedBy (λ d. refl) (wraps_on cut) count document (sound_inside document h))

-- ---- replacements at once

numbered_applies : (document : DocumentState) (stretches : List (ℕ × ℕ)) (symbols : List Symbol) (now : ℕ) → IsSound document
    → Applies (lines_numbered document) (all_splices document stretches symbols now) (replaced_in_turn (lines_numbered document) stretches symbols now)
numbered_applies document stretches symbols now h =
    let copy = lines_numbered document in
    subst (λ (splices : List Splice). Applies copy splices (replaced_in_turn copy stretches symbols now))
    (each_same 0 stretches symbols now (begun_at_start copy) (begun_at_start document) refl) (in_turn_applies copy stretches symbols now (sound_numbered document h))

pub replaced_changed : (document : DocumentState) (stretches : List (ℕ × ℕ)) (symbols : List Symbol) (now : ℕ) → IsSound document
    → IsChangedFrom (text_and_layout document) (text_and_layout (replaced_in_turn (lines_numbered document) stretches symbols now))
replaced_changed document stretches symbols now h =
    changed_from document (replaced_in_turn (lines_numbered document) stretches symbols now) (all_splices document stretches symbols now) (numbered_applies document stretches symbols now h)

pub all_wrap : OneList → WrapsTogether → (document : DocumentState) (stretches : List (ℕ × ℕ)) (symbols : List Symbol) (now : ℕ) → IsSound document
    → SplicedAtOnce document (all_splices document stretches symbols now) (all_replaced document stretches symbols now)
unfolding all_replaced
all_wrap one_list law document [] symbols now h = wraps_few one_list (text_and_layout document) (text_and_layout document) [] (omega arith) refl
all_wrap one_list law document (stretch ∷ rest) symbols now h =
    wraps_together law document (replaced_in_turn (lines_numbered document) (stretch ∷ rest) symbols now) (all_splices document (stretch ∷ rest) symbols now) (numbered_applies document (stretch ∷ rest) symbols now h)
