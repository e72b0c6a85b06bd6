-- Each step preserves the invariant of documents.
use Rattle.std.proofs.Common.{◌≡◌, ℕ, zero, suc, Bool, true, false, cond, List, [], length, Option, Some, None, Result, Ok, Err, sym, ap, refl, ◌∙◌, subst, arith}
use Rattle.textarea_document.specs.Prelude.{ArePastRanges, IsValidList, PastRanges, history_forgotten, no_past_ranges, past_ranges_set, undo_ranges_set, past_ranges_after, ranges_before_newest}
use Rattle.textarea_document.specs.Prelude.{ranges_before_next, ranges_or, texts_before, LoggedChanges, no_changes, changes_taken, with_splice, group_begun, group_ended, is_open}
use Rattle.textarea_history.specs.declared.history.groups.Group.{Group}
use Rattle.textarea_history.specs.declared.history.groups.Group.TheVariants.{Closed, Empty}
use Rattle.textarea_document.specs.Prelude.{IfSome, OnErr, OnOk, Symbol, lines, Place, IsPlace, Splice, Fits, applied, inverse, place_after, Log, empty_log, redone_log, newest}
use Rattle.textarea_document.specs.Prelude.{next, recorded, undone_log, AtomicRange, moved_ranges, LayoutSettings, TextAndLayout, Layout, applied_to, layout_from_scratch, with_settings}
use Rattle.textarea_document.specs.Prelude.{DocumentState, document_of, fresh_document, logged, after_change, after_edit, after_redo_by, after_undo_by}
use Rattle.textarea_document.specs.Prelude.{edit_redone, edit_undone, is_grouped, layout_at_once, lines_numbered, numbered, times, wrapped_at_once, wrapped_once, text_and_layout, with_layout_settings, IsSound, IsSoundInside}
use Rattle.textarea_text.proofs.TextPlaces.{IsPlace-end, takes_back}
use Rattle.textarea_history.specs.HistoryLaw.{IsSoundLog as LogIsSound}
use Rattle.textarea_history.proofs.LogLaws.{each_fits, newest_back, recorded_whole, sound_redone_by, sound_undone_by, sound_edited as log_edited}
use Rattle.textarea_ranges.proofs.Moving.{in_order_moved, valid_moved}
use Rattle.textarea_document.proofs.PastRanges.{newest_valid, next_valid, past_edited, texts_before-redone, texts_before-undone}
use Rattle.textarea_document.proofs.Ranges.{valid_none}
use Rattle.textarea_lines.proofs.PutSettings.{text_stays}

pub logged_sound : (document : DocumentState) → IsSound document → LogIsSound (logged document)
logged_sound document h = record { undo = h.undo; redo = h.redo; bounded = h.bounded; marks = h.marks }

pub sound_inside : (document : DocumentState) → IsSound document → IsSoundInside document
sound_inside document h = record { cursor = h.cursor; anchor = h.anchor; ranges = h.ranges; in_order = h.in_order; log = logged_sound document h; past = h.past }

pub sound_whole : (document : DocumentState) → IsSoundInside document → is_grouped document.log.marks (length document.log.done) ≡ false → IsSound document
sound_whole document h whole = record {
  cursor = h.cursor;
  anchor = h.anchor;
  ranges = h.ranges;
  in_order = h.in_order;
  undo = h.log.undo;
  redo = h.log.redo;
  bounded = h.log.bounded;
  marks = h.log.marks;
  whole = whole;
  past = h.past;
}

-- valid ranges are, once they have moved with the text
moved_valid : (text : List Symbol) (splice : Splice) (ranges : List AtomicRange) → Fits text splice → IsValidList text ranges → IsValidList (applied text splice) (moved_ranges ranges splice)
moved_valid text splice ranges fits h = record { valid = valid_moved text splice ranges fits h.valid; in_order = in_order_moved text splice ranges fits h.valid h.in_order }

-- after a splice that fits and leaves this log, these ranges and these remembered ones
inside_after : (document : DocumentState) (splice : Splice) (log : Log) (ranges : List AtomicRange) (past : PastRanges) → Fits document.text splice →
    LogIsSound (record { text = applied document.text splice; log = log }) → IsValidList (applied document.text splice) ranges → ArePastRanges (texts_before (applied document.text splice) log.done log.undone) past →
    IsSoundInside (record (after_change document splice log) { ranges = ranges; past_ranges = past })
inside_after document splice log ranges past fits h valid before = record {
  cursor = (takes_back document.text splice fits).is_place;
  anchor = tt;
  ranges = valid.valid;
  in_order = valid.in_order;
  log = h;
  past = before;
}

pub sound_edited : (document : DocumentState) (splice : Splice) (typed : Bool) (now : ℕ) → IsSound document → Fits document.text splice → IsSound (after_edit document splice typed now)
sound_edited document splice typed now h fits =
    let after = log_edited (logged document) splice typed now (logged_sound document h) fits in
    let here : IsValidList document.text document.ranges = record { valid = h.ranges; in_order = h.in_order } in
    sound_whole (after_edit document splice typed now)
    (inside_after document splice (recorded document.log splice typed now) (moved_ranges document.ranges splice) (past_ranges_after document splice typed now) fits after
    (moved_valid document.text splice document.ranges fits here)
    (past_edited document.text document.ranges document.log document.past_ranges splice typed now (logged_sound document h) fits here h.past))
    (recorded_whole (logged document) splice typed now (logged_sound document h) fits h.whole)

-- a document's parts after the change of a splice, with this log, make the document after it
pub changed_is : (text_layout new : TextAndLayout) (cursor ahead : Place) (anchor : Option Place) (ranges stored : List AtomicRange) (log after left : Log) (changes made : LoggedChanges) (past : PastRanges)
    (change splice : Splice) → change ≡ splice →
    new ≡ applied_to text_layout change → ahead ≡ place_after change → stored ≡ moved_ranges ranges change → after ≡ left → made ≡ with_splice changes text_layout.text change →
    document_of new ahead None stored after made past ≡ after_change (document_of text_layout cursor anchor ranges log changes past) splice left
changed_is text_layout new cursor ahead anchor ranges stored log after left changes made past change splice is layout_is cursor_is stored_is log_is made_is =
    rw (layout_is, cursor_is, stored_is, log_is, made_is, is) refl

-- copied parts without changes make the document without changes
pub copy_is : (text_layout new : TextAndLayout) (cursor : Place) (anchor : Option Place) (ranges stored : List AtomicRange) (log left : Log) (changes none : LoggedChanges) (past kept : PastRanges) →
    new ≡ text_layout → stored ≡ ranges → left ≡ log → none ≡ no_changes changes.unit → kept ≡ past →
    document_of new cursor anchor stored left none kept ≡ changes_taken (document_of text_layout cursor anchor ranges log changes past)
copy_is text_layout new cursor anchor ranges stored log left changes none past kept layout_is stored_is log_is none_is kept_is =
    rw (layout_is, stored_is, log_is, none_is, kept_is) refl

-- copied parts with numbered lines make the document with its lines numbered
pub numbered_is : (text_layout new : TextAndLayout) (cursor : Place) (anchor : Option Place) (ranges stored : List AtomicRange) (log left : Log) (changes copied : LoggedChanges) (past kept : PastRanges) →
    new ≡ numbered text_layout → stored ≡ ranges → left ≡ log → copied ≡ changes → kept ≡ past →
    document_of new cursor anchor stored left copied kept ≡ lines_numbered (document_of text_layout cursor anchor ranges log changes past)
numbered_is text_layout new cursor anchor ranges stored log left changes copied past kept layout_is stored_is log_is copied_is kept_is =
    rw (layout_is, stored_is, log_is, copied_is, kept_is) refl

-- the layout, the changes, a run of typing and an open group have no influence on the invariant, and the cursor and the anchor may be any positions
pub sound_otherwise : (document : DocumentState) (layout : Layout) (cursor : Place) (anchor : Option Place) (run_open : Bool) (group : Group) (changes : LoggedChanges) → IsSound document →
    IsPlace document.text cursor → IfSome anchor (IsPlace document.text) →
    IsSound (record document { layout = layout; cursor = cursor; anchor = anchor; log = record document.log { run_open = run_open; group = group }; changes = changes })
sound_otherwise document layout cursor anchor run_open group changes h at from = record {
  cursor = at;
  anchor = from;
  ranges = h.ranges;
  in_order = h.in_order;
  undo = h.undo;
  redo = h.redo;
  bounded = h.bounded;
  marks = h.marks;
  whole = h.whole;
  past = h.past;
}

pub resound : (document : DocumentState) (layout : Layout) → IsSound document → IsSound (record document { layout = layout })
resound document layout h = sound_otherwise document layout document.cursor document.anchor document.log.run_open document.log.group document.changes h h.cursor h.anchor

pub sound_changes : (document : DocumentState) (changes : LoggedChanges) → IsSound document → IsSound (record document { changes = changes })
sound_changes document changes h = sound_otherwise document document.layout document.cursor document.anchor document.log.run_open document.log.group changes h h.cursor h.anchor

-- the parts of a copy, with its lines wrapped at the end, make the document that wraps at once
pub wrapped_is : (old copy : DocumentState) (wrapped : TextAndLayout) (changes : LoggedChanges) → wrapped ≡ wrapped_once (text_and_layout old) (text_and_layout copy) →
    document_of wrapped copy.cursor copy.anchor copy.ranges copy.log changes copy.past_ranges ≡ record (wrapped_at_once old copy) { changes = changes }
unfolding layout_at_once
wrapped_is old copy wrapped changes is = ap (λ (t : TextAndLayout). document_of t copy.cursor copy.anchor copy.ranges copy.log changes copy.past_ranges) is

pub sound_wrapped : (old copy : DocumentState) (wrapped : TextAndLayout) (changes : LoggedChanges) → wrapped ≡ wrapped_once (text_and_layout old) (text_and_layout copy) → IsSound copy →
    IsSound (document_of wrapped copy.cursor copy.anchor copy.ranges copy.log changes copy.past_ranges)
sound_wrapped old copy wrapped changes is h =
    subst IsSound (sym (wrapped_is old copy wrapped changes is))
    (sound_otherwise copy (wrapped_at_once old copy).layout copy.cursor copy.anchor copy.log.run_open copy.log.group changes h h.cursor h.anchor)

-- other ranges are remembered
pub sound_past : (document : DocumentState) (past : PastRanges) → IsSound document → ArePastRanges (texts_before document.text document.log.done document.log.undone) past → IsSound (record document { past_ranges = past })
sound_past document past h before = record {
  cursor = h.cursor;
  anchor = h.anchor;
  ranges = h.ranges;
  in_order = h.in_order;
  undo = h.undo;
  redo = h.redo;
  bounded = h.bounded;
  marks = h.marks;
  whole = h.whole;
  past = before;
}

-- none are
pub none_past : (text : List Symbol) (done undone : List Splice) (on : Bool) → ArePastRanges (texts_before text done undone) (no_past_ranges on)
none_past text done undone on = record { off = λ off. refl; valid = tt }

-- they are to be remembered from now on, or not
pub sound_undo_ranges : (document : DocumentState) (on : Bool) → IsSound document → IsSound (undo_ranges_set document on)
sound_undo_ranges document true h =
    sound_past document (past_ranges_set document.past_ranges true) h (record { off = λ off. absurd cc; valid = h.past.valid })
sound_undo_ranges document false h =
    sound_past document (past_ranges_set document.past_ranges false) h (none_past document.text document.log.done document.log.undone false)

-- no edit is
pub sound_forgotten : (document : DocumentState) (maximum : ℕ) → IsSound document → IsSound (history_forgotten document maximum)
sound_forgotten document maximum h = record {
  cursor = h.cursor;
  anchor = h.anchor;
  ranges = h.ranges;
  in_order = h.in_order;
  undo = tt;
  redo = tt;
  bounded = omega arith;
  marks = refl;
  whole = refl;
  past = none_past document.text [] [] document.past_ranges.on;
}

-- ---- groups

sound_with_group : (document : DocumentState) (group : Group) → IsSound document → IsSound (record document { log = record document.log { run_open = false; group = group } })
sound_with_group document group h = sound_otherwise document document.layout document.cursor document.anchor false group document.changes h h.cursor h.anchor

pub sound_begun : (document : DocumentState) → IsSound document → IsSound (record document { log = group_begun document.log })
sound_begun document h = by (is_open document.log.group)
  where
    by : (b : Bool) → IsSound (record document { log = cond b document.log (record document.log { run_open = false; group = Empty }) })
    by true = h
    by false = sound_with_group document Empty h

pub sound_ended : (document : DocumentState) → IsSound document → IsSound (record document { log = group_ended document.log })
sound_ended document h = by (is_open document.log.group)
  where
    by : (b : Bool) → IsSound (record document { log = cond b (record document.log { run_open = false; group = Closed }) document.log })
    by true = sound_with_group document Closed h
    by false = h

-- ---- undo and redo

-- what holds before a step and after it holds after its call
pub after_step : {S T E : Type 0} (P : S → Type 0) (r : Result T E) (old next new : S) → OnOk r (new ≡ next) → OnErr r (new ≡ old) → P old → P next → P new
after_step P (Ok x) old next new ok err before after = subst P (sym ok) after
after_step P (Err e) old next new ok err before after = subst P (sym err) before

-- the newest edit can be undone, and the one that was undone last redone
pub newest_fits : (document : DocumentState) (splice : Splice) → LogIsSound (logged document) → newest document.log ≡ Some splice → Fits document.text (inverse splice)
newest_fits document splice h e = (newest_back (logged document) splice h e).0

pub next_fits : (document : DocumentState) (splice : Splice) → LogIsSound (logged document) → next document.log ≡ Some splice → Fits document.text splice
next_fits document splice h e = (each_fits (logged document) h).undone 0 splice e

-- the remembered ranges, or else the others
either_valid : (text : List Symbol) (past : Option (List AtomicRange)) (ranges : List AtomicRange) → ((before : List AtomicRange) → past ≡ Some before → IsValidList text before) → IsValidList text ranges →
    IsValidList text (ranges_or past ranges)
either_valid text None ranges past h = h
either_valid text (Some before) ranges past h = past before refl

-- those from which a redo goes on
pub next_ranges_valid : (document : DocumentState) (splice : Splice) → IsSoundInside document → next document.log ≡ Some splice →
    IsValidList document.text (ranges_or (ranges_before_next document.past_ranges document.log) document.ranges)
next_ranges_valid document splice h e =
    either_valid document.text (ranges_before_next document.past_ranges document.log) document.ranges
    (λ past is. next_valid document.text document.log document.past_ranges splice past h.past e is) (record { valid = h.ranges; in_order = h.in_order })

pub inside_undone : (document : DocumentState) → IsSoundInside document → IsSoundInside (edit_undone document)
inside_undone document h = by (newest document.log) refl
  where
    by : (found : Option Splice) → newest document.log ≡ found → IsSoundInside (after_undo_by found document)
    by None e = h
    by (Some splice) e =
        let fits = newest_fits document splice h.log e in
        inside_after document (inverse splice) (undone_log document.log splice) (ranges_or (ranges_before_newest document.past_ranges document.log) (moved_ranges document.ranges (inverse splice))) document.past_ranges fits
        (sound_undone_by (logged document) splice h.log e)
        (either_valid (applied document.text (inverse splice)) (ranges_before_newest document.past_ranges document.log) (moved_ranges document.ranges (inverse splice))
        (λ past is. newest_valid document.text document.log document.past_ranges splice past h.past e is)
        (moved_valid document.text (inverse splice) document.ranges fits (record { valid = h.ranges; in_order = h.in_order })))
        (subst (λ (texts : List (List Symbol)). ArePastRanges texts document.past_ranges) (sym (texts_before-undone document.text document.log.done document.log.undone splice e fits)) h.past)

pub inside_redone : (document : DocumentState) → IsSoundInside document → IsSoundInside (edit_redone document)
inside_redone document h = by (next document.log) refl
  where
    by : (found : Option Splice) → next document.log ≡ found → IsSoundInside (after_redo_by found document)
    by None e = h
    by (Some splice) e =
        let fits = next_fits document splice h.log e in
        let first = ranges_or (ranges_before_next document.past_ranges document.log) document.ranges in
        inside_after document splice (redone_log document.log splice) (moved_ranges first splice) document.past_ranges fits (sound_redone_by (logged document) splice h.log e)
        (moved_valid document.text splice first fits (next_ranges_valid document splice h e))
        (subst (λ (texts : List (List Symbol)). ArePastRanges texts document.past_ranges) (sym (texts_before-redone document.text document.log.done document.log.undone splice e fits)) h.past)

pub inside_times : (step : DocumentState → DocumentState) → ((document : DocumentState) → IsSoundInside document → IsSoundInside (step document)) → (count : ℕ) (document : DocumentState) →
    IsSoundInside document → IsSoundInside (times count step document)
inside_times step one zero document h = h
inside_times step one (suc count) document h = one (times count step document) (inside_times step one count document h)

-- a document without a history
pub sound_fresh : (text : List Symbol) (settings : LayoutSettings) (count : ℕ) (cursor : Place) (maximum : ℕ) → IsPlace text cursor → IsSound (fresh_document text settings count cursor maximum)
sound_fresh text settings count cursor maximum h = record {
  cursor = h;
  anchor = tt;
  ranges = valid_none (lines text);
  in_order = refl;
  undo = tt;
  redo = tt;
  bounded = omega arith;
  marks = refl;
  whole = refl;
  past = none_past text [] [] false;
}

pub fresh_is : (text : List Symbol) (settings : LayoutSettings) (count : ℕ) (cursor : Place) (maximum : ℕ) (text_layout : TextAndLayout) (stored : List AtomicRange) (log : Log)
    (changes : LoggedChanges) (past : PastRanges) →
    text_layout ≡ layout_from_scratch settings count text → stored ≡ [] → log ≡ empty_log maximum →
    document_of text_layout cursor None stored log changes past ≡ record (fresh_document text settings count cursor maximum) { changes = changes; past_ranges = past }
fresh_is text settings count cursor maximum text_layout stored log changes past layout_is stored_is log_is =
    ap (λ (l : TextAndLayout). document_of l cursor None stored log changes past) layout_is
    ∙ ap (λ (r : List AtomicRange). document_of (layout_from_scratch settings count text) cursor None r log changes past) stored_is
    ∙ ap (λ (l : Log). document_of (layout_from_scratch settings count text) cursor None [] l changes past) log_is

pub sound_layout : (text : List Symbol) (settings : LayoutSettings) (count : ℕ) (cursor : Place) (maximum : ℕ) (text_layout : TextAndLayout) (stored : List AtomicRange) (log : Log) (changes : LoggedChanges) (past : PastRanges) (on : Bool) →
    text_layout ≡ layout_from_scratch settings count text → stored ≡ [] → log ≡ empty_log maximum → past ≡ no_past_ranges on → IsPlace text cursor →
    IsSound (document_of text_layout cursor None stored log changes past)
sound_layout text settings count cursor maximum text_layout stored log changes past on layout_is stored_is log_is past_is h =
    subst IsSound (sym (fresh_is text settings count cursor maximum text_layout stored log changes past layout_is stored_is log_is))
    (subst (λ (p : PastRanges). IsSound (record (fresh_document text settings count cursor maximum) { changes = changes; past_ranges = p })) (sym past_is)
    (sound_past (record (fresh_document text settings count cursor maximum) { changes = changes }) (no_past_ranges on)
    (sound_changes (fresh_document text settings count cursor maximum) changes (sound_fresh text settings count cursor maximum h)) (none_past text [] [] on)))

pub start_is_place : (text : List Symbol) → IsPlace text (0, 0)
start_is_place text = IsPlace-end [] text

-- ---- other settings

text_viewed : {T E : Type 0} (r : Result T E) (text_layout new : TextAndLayout) (settings : LayoutSettings) → OnOk r (new ≡ with_settings text_layout settings) → OnErr r (new ≡ text_layout) →
    new.text ≡ text_layout.text
text_viewed (Ok x) text_layout new settings ok err = ap (λ (l : TextAndLayout). l.text) ok ∙ text_stays text_layout settings
text_viewed (Err e) text_layout new settings ok err = ap (λ (l : TextAndLayout). l.text) err

pub sound_viewed : {T E : Type 0} (r : Result T E) (text_layout new : TextAndLayout) (settings : LayoutSettings) (cursor : Place) (anchor : Option Place) (ranges : List AtomicRange) (log : Log)
    (changes : LoggedChanges) (past : PastRanges) →
    OnOk r (new ≡ with_settings text_layout settings) → OnErr r (new ≡ text_layout) → IsSound (document_of text_layout cursor anchor ranges log changes past) → IsSound (document_of new cursor anchor ranges log changes past)
sound_viewed r text_layout new settings cursor anchor ranges log changes past ok err h =
    subst (λ (t : List Symbol). IsSound (document_of (record { text = t; layout = new.layout }) cursor anchor ranges log changes past)) (sym (text_viewed r text_layout new settings ok err))
    (resound (document_of text_layout cursor anchor ranges log changes past) new.layout h)

-- the lines with other settings are those of the document with them
pub layout_with_settings : (document : DocumentState) (settings : LayoutSettings) → with_settings (text_and_layout document) settings ≡ text_and_layout (with_layout_settings document settings)
layout_with_settings document settings =
    let after = with_settings (text_and_layout document) settings in
    ap (λ (t : List Symbol). record { text = t; layout = after.layout }) (text_stays (text_and_layout document) settings)

-- a document whose lines have other settings
pub settings_put : (text_layout new : TextAndLayout) (settings : LayoutSettings) (cursor : Place) (anchor : Option Place) (ranges : List AtomicRange) (log : Log)
    (changes : LoggedChanges) (past : PastRanges) →
    new ≡ with_settings text_layout settings → document_of new cursor anchor ranges log changes past ≡ with_layout_settings (document_of text_layout cursor anchor ranges log changes past) settings
settings_put text_layout new settings cursor anchor ranges log changes past is =
    ap (λ (l : TextAndLayout). document_of l cursor anchor ranges log changes past) (is ∙ layout_with_settings (document_of text_layout cursor anchor ranges log changes past) settings)
